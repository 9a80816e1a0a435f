use Rattle.std.proofs.Common.{append-nil}
use Rattle.jb_json.proofs.object.put_named.Goals as goal

pub returns-in-Some : goal.returns-in-Some
returns-in-Some g c = rw c.in-Some.is (rw (append-nil c.in-Some.word.now) at c.put_quoted.ensures)
