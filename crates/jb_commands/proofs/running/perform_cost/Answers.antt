use Rattle.std.proofs.Common.{◌≡◌, Some, inr, refl}
use Rattle.jb_commands.specs.Cost.{cost_said}
use Rattle.jb_commands.proofs.CommandEnds.{ends_of_answer}
use Rattle.jb_commands.proofs.running.perform_cost.Goals as goal

pub returns-in-Ok-clause-ends : goal.returns-in-Ok-clause-ends
returns-in-Ok-clause-ends g c =
    ends_of_answer (λ text words. cost_said c.args.form text ≡ Some words) c.args.file.now (g.I.Read.remaining c.args.input.now) c.in-Ok.text.items _ _
    c.cost_answer.result c.told.result c.in-Ok.ensures.text (rw c.as_slice.ensures.value at c.cost_answer.ensures.said) c.told.ensures.tells c.told.ensures.none

pub returns-in-Ok-clause-unread : goal.returns-in-Ok-clause-unread
returns-in-Ok-clause-unread g c = c.read_text.ensures.unread

pub returns-in-Err : goal.returns-in-Err
returns-in-Err g c = record { ends = inr (c.in-Err.fault, refl, c.in-Err.ensures.none, refl); unread = c.read_text.ensures.unread }
