use Rattle.std.proofs.Common.{inl, inr, refl}
use Rattle.jb_commands.proofs.files.dump_form.tell_entries.Goals as goal

pub returns-in-Ok : goal.returns-in-Ok
returns-in-Ok g c = inl (c.in-Ok.ensures, c.in_memory.ensures)

pub returns-in-Err : goal.returns-in-Err
returns-in-Err g c = inr (c.in-Err.ensures, refl)
