use Rattle.std.proofs.Common.{◌≡◌, ◌∙◌, Some, ap, rules, sym}
use Rattle.jb_cost.specs.Cost.{cost}
use Rattle.jb_queue.specs.Queue.{queue_of}
use Rattle.jb_queue.specs.QueueText.{value_of}
use Rattle.jb_commands.specs.AnswerSaid.{said}
use Rattle.jb_commands.specs.Cost.{cost_line, cost_said, cost_told, queue_cost}
use Rattle.jb_commands.specs.QueueFaults.{queue_fault}
use Rattle.jb_commands.proofs.Verdicts.{if_ok_then, named_by}
use Rattle.jb_commands.proofs.cost.cost_answer.Goals as goal

pub returns-in_ok-cost-in-Ok : goal.returns-in_ok-cost-in-Ok
returns-in_ok-cost-in-Ok c =
    let queue = c.in-Ok.queue in
    let grouped : c.in_ok-cost-in-Ok.cost ≡ cost c.of-geometry.result c.as_slice.result.now = search rules in
    let whole : c.in_ok-cost-in-Ok.cost ≡ queue_cost (value_of queue) =
    rw (c.of-geometry.ensures.tags, c.of-geometry.ensures.entries) at (rw c.as_slice.ensures.value at grouped) in
    record {
      said = if_ok_then (λ answer. said answer ≡ cost_line c.args.form c.in_ok-cost-in-Ok.cost queue.limit) (λ answer. cost_said c.args.form c.args.text.now ≡ Some (said answer)) c.cost_told.result c.cost_told.ensures.said
          (λ answer told. ap (cost_told c.args.form) c.in-Ok.ensures.ok ∙ ap Some (ap (λ n. cost_line c.args.form n queue.limit) (sym whole) ∙ sym told));
    }

pub returns-in-Err : goal.returns-in-Err
returns-in-Err c =
    let fault = c.in-Err.fault in
    record {
      said = if_ok_then (λ answer. queue_fault c.args.form fault ≡ Some (said answer)) (λ answer. cost_said c.args.form c.args.text.now ≡ Some (said answer)) c.fault_answer.result c.fault_answer.ensures.said
          (λ answer told. rw (named_by c.args.form (queue_of c.args.text.now) fault.line fault.cause (said answer) c.in-Err.ensures.err told) told);
    }
