use Rattle.std.proofs.Common.{inl, inr, refl}
use Rattle.jb_commands.proofs.DumpedSystem.{dumped-after}
use Rattle.jb_commands.proofs.files.journals.dump_open.Goals as goal

pub returns-in-Ok-true-clause-ends : goal.returns-in-Ok-true-clause-ends
returns-in-Ok-true-clause-ends g c =
    dumped-after _ _ _ _ _ _ _ _ _ _ _ c.dump_watched.result.1 _ c.is_unbegun.result c.choice_of.ensures c.dump_watched.ensures.dumps c.is_unbegun.ensures c.if-not-is_unbegun.false
    (inl ((rw c.in-Ok-true.is at c.is_system.ensures) c.in-Ok-true.field-0-test, c.dump_placed.ensures.ends))

pub returns-clause-ends : goal.returns-clause-ends
returns-clause-ends g c =
    dumped-after _ _ _ _ _ _ _ _ _ _ _ c.dump_watched.result.1 _ c.is_unbegun.result c.choice_of.ensures c.dump_watched.ensures.dumps c.is_unbegun.ensures c.if-not-is_unbegun.false
    (inr (refl, refl))
