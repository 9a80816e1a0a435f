use Rattle.std.proofs.Common.{◌≡◌, [], ◌∷◌, Some, ap, decimal, sym}
use Rattle.std.specs.Prelude.{codes}
use Rattle.std.specs.Option.{option_map}
use Rattle.jb_commands.specs.AnswerSaid.{said}
use Rattle.jb_commands.specs.QueueFaults.{fault_line, queue_fault}
use Rattle.jb_commands.specs.TextFaults.{text_fault}
use Rattle.jb_commands.proofs.Verdicts.{if_ok_then}
use Rattle.jb_commands.proofs.queue_fault.fault_answer.Goals as goal

pub returns : goal.returns
returns c =
    let line = c.args.fault.line in
    let cause = c.in-Some.cause.now in
    let told = text_fault c.args.form cause (line ∷ []) (codes "queue line " ∷ decimal line ∷ codes ": " ∷ cause ∷ []) c.in-Some.hint in
    let named = rw c.in-Some.is at c.told_as.ensures in
    record {
      said = if_ok_then (λ answer. said answer ≡ told) (λ answer. queue_fault c.args.form c.args.fault ≡ Some (said answer)) c.fault.result
          (rw c.format.ensures.text at c.fault.ensures)
          (λ answer is. rw (sym named) (ap Some (sym is)));
    }
