use Rattle.std.proofs.Common.{refl, sym, ◌∙◌}
use Rattle.jb_commands.proofs.files.journals.dump_named.Goals as goal

pub returns-then-is_bare-clause-ends : goal.returns-then-is_bare-clause-ends
returns-then-is_bare-clause-ends g c = rw (sym c.is_bare.ensures ∙ c.if-is_bare.true) (refl, refl)

pub returns-clause-ends : goal.returns-clause-ends
returns-clause-ends g c = rw (sym c.is_bare.ensures ∙ c.if-is_bare.false) c.dump_chosen.ensures.ends
