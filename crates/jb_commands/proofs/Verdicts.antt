-- What a check says, from what its parts say.
use Rattle.std.proofs.Common.{◌≡◌, ℕ, Some, Result, Ok, Err, IfOk, length}
use Rattle.jb_cost.specs.Cut.{piece_cost}
use Rattle.jb_cost.specs.declared.geometry.Geometry.{Geometry}
use Rattle.jb_queue.specs.Queue.{Queue, ReportsBy}
use Rattle.jb_queue.specs.declared.fault.Cause.{Cause}
use Rattle.jb_queue.specs.declared.fault.Cause.TheVariants.{BlockSizeLine, LimitLine, HandleLine, OpWord, DataWord, Memory as OutOfMemory}
use Rattle.jb_queue.specs.declared.fault.QueueFault.{QueueFault}
use Rattle.jb_price.specs.Verdict.{IsRight, Says}
use Rattle.jb_price.specs.declared.certificate.Cert.{Cert}
use Rattle.jb_price.specs.declared.verdict.Verdict.{Verdict}
use Rattle.jb_price.specs.declared.verdict.Verdict.TheVariants.{Accepted}
use Rattle.jb_args.specs.declared.settings.AnswerForm.{AnswerForm}
use Rattle.jb_commands.specs.Check.{IsVerdictOn}
use Rattle.jb_commands.specs.QueueFaults.{queue_fault}
use Rattle.jb_commands.specs.Plan.{IsGeometryOf}
use Rattle.jb_commands.specs.AnswerSaid.{Said}

-- a further fact of a result
pub if_ok_then : {A E : Type 0} (P Q : A → Type 0) (r : Result A E) → IfOk r P → ((x : A) → P x → Q x) → IfOk r Q
if_ok_then P Q (Ok x) holds more = more x holds
if_ok_then P Q (Err e) holds more = tt

-- the verdict of a check by the queue's geometry is a verdict on the queue
pub on_queue : {E : Type 0} (q : Queue) (cert : Cert) (g : Geometry) (r : Result Verdict E) → IsGeometryOf q g
    → IfOk r (λ v. Says (piece_cost g q.handles) q.limit (length q.handles) cert.prices.items cert.answer v)
    → IfOk r (λ v. v ≡ Accepted → IsRight (piece_cost g q.handles) q.limit (length q.handles) cert.answer)
    → IfOk r (IsVerdictOn q cert)
on_queue q cert g (Ok v) own says right = record { geometry = g; own = own; says = says; right = right }
on_queue q cert g (Err e) own says right = tt

-- a fault with words is the first of the text
pub named_by : (form : AnswerForm) (read : Result Queue QueueFault) (at : ℕ) (why : Cause) (words : Said) → ReportsBy read at why
    → queue_fault form (record { line = at; cause = why }) ≡ Some words → read ≡ Err (record { line = at; cause = why })
named_by form read at BlockSizeLine words reports told = reports
named_by form read at LimitLine words reports told = reports
named_by form read at HandleLine words reports told = reports
named_by form read at OpWord words reports told = reports
named_by form read at DataWord words reports told = reports
named_by form read at OutOfMemory words reports told = absurd (let h : ⊥ = cc in h)
