use Rattle.std.proofs.Common.{◌≡◌, Ok, Some}
use Rattle.jb_queue.specs.Queue.{queue_of}
use Rattle.jb_queue.specs.QueueText.{value_of}
use Rattle.jb_commands.specs.AnswerSaid.{said}
use Rattle.jb_commands.specs.Plan.{PlanSays, SaysPlan}
use Rattle.jb_commands.specs.QueueFaults.{queue_fault}
use Rattle.jb_commands.proofs.Verdicts.{if_ok_then, named_by}
use Rattle.jb_commands.proofs.plan.plan_answer.Goals as goal

pub returns-in-Ok : goal.returns-in-Ok
returns-in-Ok c = record {
  said = if_ok_then (λ answer. SaysPlan c.args.form (Ok (value_of c.in-Ok.queue)) (said answer)) (λ answer. PlanSays c.args.form c.args.text.now (said answer)) c.plan_told.result c.plan_told.ensures.said
      (λ answer told. rw c.in-Ok.ensures.ok told);
}

pub returns-in-Err : goal.returns-in-Err
returns-in-Err c =
    let fault = c.in-Err.fault in
    record {
      said = if_ok_then (λ answer. queue_fault c.args.form fault ≡ Some (said answer)) (λ answer. PlanSays c.args.form c.args.text.now (said answer)) c.fault_answer.result c.fault_answer.ensures.said
          (λ answer told. rw (named_by c.args.form (queue_of c.args.text.now) fault.line fault.cause (said answer) c.in-Err.ensures.err told) told);
    }
