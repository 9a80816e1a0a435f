use Rattle.std.proofs.Common.{refl}
use Rattle.jb_commands.proofs.files.homes.cat_file.Goals as goal

pub returns-in-Ok-clause-ends : goal.returns-in-Ok-clause-ends
returns-in-Ok-clause-ends g c = (c.in-Ok.opened.disk, c.in-Ok.opened.homes, c.in-Ok.opened.found, rw c.checksums_of.ensures at c.in-Ok.ensures.opened, c.show_opened-done.ensures.shows)

pub returns-in-Err-clause-ends : goal.returns-in-Err-clause-ends
returns-in-Err-clause-ends g c = (c.in-Err.fault, refl, rw c.checksums_of.ensures at c.in-Err.ensures.shut, refl)
