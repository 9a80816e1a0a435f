use Rattle.std.proofs.Common.{◌≡◌, rules}
use Rattle.jb_json.specs.Facts.{facts_of}
use Rattle.jb_json.specs.Reports.{facts_line}
use Rattle.jb_json.proofs.report.put_at_once.Goals as goal

pub returns-in-Ok : goal.returns-in-Ok
returns-in-Ok g c =
    let text : c.as_slice.result.now ≡ facts_line (facts_of c.args.fields.now) = search rules in
    rw text at c.put.ensures.puts
