use Rattle.std.proofs.Common.{◌≡◌, rules}
use Rattle.jb_json.specs.Facts.{facts_of}
use Rattle.jb_json.specs.Objects.{json_line}
use Rattle.jb_json.proofs.report.put_json.Goals as goal

pub returns-in-Ok : goal.returns-in-Ok
returns-in-Ok g c =
    let text : c.as_slice.result.now ≡ json_line (facts_of c.args.fields.now) = search rules in
    rw text at c.put.ensures.puts
