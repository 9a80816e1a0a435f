use Rattle.std.proofs.Common.{refl}
use Rattle.jb_commands.proofs.running.run_plain.Goals as goal

pub returns-clause-runs : goal.returns-clause-runs
returns-clause-runs g c = (
  c.perform-done.result.image,
  c.perform-done.result.end,
  record { out = g.O.Write.contents c.perform-done.new.out; err = g.E.Write.contents c.perform-done.new.err },
  c.perform-done.ensures.ends,
  (
    c.tell.result,
    record { out = g.O.Write.contents c.tell.new.out; err = g.E.Write.contents c.perform-done.new.err },
    (c.tell.ensures, refl),
    rw c.files_of.ensures at c.close.ensures (g.O.Write.contents c.tell.new.out),
  ),
)
