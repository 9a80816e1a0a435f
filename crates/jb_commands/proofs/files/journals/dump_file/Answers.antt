use Rattle.std.proofs.Common.{inl, inr, refl}
use Rattle.jb_commands.proofs.files.journals.dump_file.Goals as goal

pub returns-in-Ok-clause-ends : goal.returns-in-Ok-clause-ends
returns-in-Ok-clause-ends g c = inl c.dump_open.ensures.ends

pub returns-in-Err-clause-ends : goal.returns-in-Err-clause-ends
returns-in-Err-clause-ends g c = inr (c.unopened.result, refl, c.unopened.ensures.unopened, refl)
