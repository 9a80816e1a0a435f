use Rattle.std.proofs.Common.{inl, inr, refl}
use Rattle.jb_commands.proofs.files.journals.dump_placed.Goals as goal

pub returns-in-Ok-clause-ends : goal.returns-in-Ok-clause-ends
returns-in-Ok-clause-ends g c =
    inl (c.in-Ok.opened.disk, c.in-Ok.opened.homes, c.in-Ok.opened.found, rw c.sought.ensures at c.in-Ok.ensures.opened, c.dump_opened.ensures.dumps)

pub returns-in-Err-clause-ends : goal.returns-in-Err-clause-ends
returns-in-Err-clause-ends g c = inr (c.in-Err.fault, refl, rw c.sought.ensures at c.in-Err.ensures.shut, refl)
