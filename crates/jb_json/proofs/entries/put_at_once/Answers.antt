use Rattle.std.proofs.Common.{◌≡◌, rules}
use Rattle.jb_json.specs.Entries.{entry_text}
use Rattle.jb_json.proofs.entries.put_at_once.Goals as goal

pub returns-in-Ok : goal.returns-in-Ok
returns-in-Ok g c =
    let text : c.as_slice.result.now ≡ entry_text c.args.line.now = search rules in
    rw text at c.put.ensures.puts
