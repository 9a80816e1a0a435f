use Rattle.std.proofs.Common.{refl, Ok, Err}
use Rattle.jb_commands.proofs.files.changes.widen_opened.Goals as goal

pub returns-in-Ok : goal.returns-in-Ok
returns-in-Ok g c = (c.judge_within.new.disk, Ok tt, rw c.in-Ok.is at c.judge_within.ensures, c.widen_on.ensures.widens)

pub returns-in-Err : goal.returns-in-Err
returns-in-Err g c = (c.judge_within.new.disk, Err c.in-Err.fault, rw c.in-Err.is at c.judge_within.ensures, (refl, refl))
