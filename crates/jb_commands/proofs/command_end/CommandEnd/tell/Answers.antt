use Rattle.std.proofs.Common.{ap, refl}
use Rattle.std.specs.Prelude.{Err}
use Rattle.jb_commands.proofs.command_end.CommandEnd.tell.Goals as goal

pub returns-in-Ok : goal.returns-in-Ok
returns-in-Ok g c = (c.failure_of-failure.result, c.failure_of-failure.ensures, rw c.in-Ok.is c.tell.ensures)

pub returns-in-Err : goal.returns-in-Err
returns-in-Err g c =
    (c.failure_of-failure.result, c.failure_of-failure.ensures, rw c.in-Err.is (ap Err c.with_failure.ensures.value, refl))
