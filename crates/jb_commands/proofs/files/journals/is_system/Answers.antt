use Rattle.jb_commands.proofs.DumpedSystem.{system-known}
use Rattle.jb_commands.proofs.files.journals.is_system.Goals as goal

pub returns-in-Ok : goal.returns-in-Ok
returns-in-Ok g c = system-known c.in-Ok.system c.is_some.result c.is_some.ensures c.in-Ok.ensures.read
