use Rattle.std.proofs.Common.{◌∙◌}
use Rattle.jb_desk.proofs.desk.Desk.begin_in_turn.Goals as goal

pub returns-in-Ok-clause-ok : goal.returns-in-Ok-clause-ok
returns-in-Ok-clause-ok g c = (c.in-Ok.ensures.ok.0 ∙ c.loop.invariant, c.in-Ok.ensures.ok.1)

pub returns-in-Ok-clause-back : goal.returns-in-Ok-clause-back
returns-in-Ok-clause-back g c = tt

pub returns-in-Ok-clause-refused : goal.returns-in-Ok-clause-refused
returns-in-Ok-clause-refused g c = tt

pub returns-in_default-clause-ok : goal.returns-in_default-clause-ok
returns-in_default-clause-ok g c = tt

pub returns-in_default-clause-back : goal.returns-in_default-clause-back
returns-in_default-clause-back g c = c.in-Err.ensures.back ∙ c.loop.invariant

pub returns-then-is_zero-clause-ok : goal.returns-then-is_zero-clause-ok
returns-then-is_zero-clause-ok g c = tt

pub returns-then-is_zero-clause-back : goal.returns-then-is_zero-clause-back
returns-then-is_zero-clause-back g c = c.in-Err.ensures.back ∙ c.loop.invariant

pub loop-preserved : goal.loop-preserved
loop-preserved g c = c.in-Err.ensures.back ∙ c.loop.invariant
