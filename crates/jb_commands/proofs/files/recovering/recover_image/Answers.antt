use Rattle.std.proofs.Common.{refl, Ok, Err}
use Rattle.jb_commands.specs.Watched.{watched}
use Rattle.jb_commands.proofs.files.recovering.recover_image.Goals as goal

pub returns-in-Ok : goal.returns-in-Ok
returns-in-Ok g c = record { recovers = (watched c.check_own.new.disk, Ok tt, c.in-Ok.ensures.checks, c.recover_watched.ensures.recovers) }

pub returns-in-Err : goal.returns-in-Err
returns-in-Err g c = record { recovers = (watched c.check_own.new.disk, Err c.in-Err.fault, c.in-Err.ensures.checks, (refl, refl)) }
