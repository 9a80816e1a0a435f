-- What `jb plan` says of a queue text.
use Rattle.std.specs.Prelude.{◌≡◌, ℕ, List, [], ◌∷◌, Option, Some, None, Result, Ok, Err, codes, length}
use Rattle.jb_cost.specs.Cut.{ArePrices, EachPiece, IsFirstToAttain, piece_cost}
use Rattle.jb_cost.specs.declared.geometry.Geometry.{Geometry}
use Rattle.jb_queue.specs.Queue.{Queue, queue_of}
use Rattle.jb_queue.specs.declared.fault.QueueFault.{QueueFault}
use Rattle.jb_plan.specs.declared.planned.Answer.{Answer as PlanAnswer}
use Rattle.jb_plan.specs.declared.planned.Answer.TheVariants.{Cut as PlanCut, NoCut as NoPlan}
use Rattle.jb_price.specs.Certificate.{cert_text}
use Rattle.jb_price.specs.Verdict.{IsRight}
use Rattle.jb_price.specs.declared.certificate.Cert.{Cert}
use Rattle.jb_price.specs.declared.certificate.CertAnswer.{CertAnswer}
use Rattle.jb_price.specs.declared.certificate.CertAnswer.TheVariants.{Cut, NoCut}
use Rattle.jb_json.specs.Facts.{Fact, Counted, Listed, Named, Sparse}
use Rattle.jb_json.specs.Objects.{json_line}
use Rattle.jb_args.specs.declared.settings.AnswerForm.{AnswerForm}
use Rattle.jb_args.specs.declared.settings.AnswerForm.TheVariants.{Json, Text}
use Rattle.jb_commands.specs.Cost.{full_entries, full_tags}
use Rattle.jb_commands.specs.QueueFaults.{queue_fault}
use Rattle.jb_commands.specs.AnswerSaid.{Said}

-- the geometry is that of the queue's blocks
abbrev pub IsGeometryOf : Queue → Geometry → Type 0
IsGeometryOf q g = (g.t ≡ full_tags q) × (g.r ≡ full_entries q)

-- each bound of the cut but the first comes after the least one that can come before it
abbrev pub IsEarliestCut : (ℕ → ℕ → ℕ) → ℕ → List (Option ℕ) → CertAnswer → Type 0
IsEarliestCut c limit ps (Cut bounds sum) = EachPiece (IsFirstToAttain c limit ps) bounds.items
IsEarliestCut c limit ps NoCut = Unit {0}

-- the best certificate of n handles: price i is the least total over the cuts of the first i of them that fit, and no
-- cut that fits takes fewer blocks than its cut; or it says that none fits, and none does
pub record IsBestCert (c : ℕ → ℕ → ℕ) (limit n : ℕ) (cert : Cert) : Type 0 where
  pub prices : ArePrices c limit n cert.prices.items
  pub right : IsRight c limit n cert.answer
  pub chosen : IsEarliestCut c limit cert.prices.items cert.answer

-- the answer of a certificate of this plan
abbrev pub told_as : PlanAnswer → CertAnswer
told_as (PlanCut bounds sum) = Cut bounds sum
told_as NoPlan = NoCut

-- the exit status: 1 where there is no cut
abbrev pub status_of_plan : CertAnswer → ℕ
status_of_plan (Cut bounds sum) = 0
status_of_plan NoCut = 1

-- the best certificate of a queue
abbrev pub IsBestCertOf : Queue → Cert → Type 0
IsBestCertOf q cert =
    (g : Geometry) × IsGeometryOf q g × IsBestCert (piece_cost g q.handles) q.limit (length q.handles) cert

-- what is reported in JSON of a certificate's answer: the cut's bounds and its total, or null for both
abbrev pub answer_facts : CertAnswer → List Fact
answer_facts (Cut bounds total) = Listed (codes "cut") [] bounds.items ∷ Counted (codes "total") total ∷ []
answer_facts NoCut = Named (codes "cut") None ∷ Named (codes "total") None ∷ []

-- what is reported in JSON of a certificate: the prices and the answer that its text has
abbrev pub cert_facts : Cert → List Fact
cert_facts cert = Sparse (codes "prices") cert.prices.items ∷ answer_facts cert.answer

-- a certificate in a form: its text, or the same in JSON
abbrev pub cert_in : AnswerForm → Cert → List ℕ
cert_in Text cert = cert_text cert
cert_in Json cert = json_line (cert_facts cert)

-- what `jb plan` says of a certificate, in this form
abbrev pub plan_text : AnswerForm → Cert → Said
plan_text form cert = record { status = status_of_plan cert.answer; out = cert_in form cert; err = []; hint = None }

-- what `jb plan` says of a queue, or of its first fault: its best certificate
abbrev pub SaysPlan : AnswerForm → Result Queue QueueFault → Said → Type 0
SaysPlan form (Ok q) words = (cert : Cert) × IsBestCertOf q cert × (words ≡ plan_text form cert)
SaysPlan form (Err fault) words = queue_fault form fault ≡ Some words

-- what `jb plan` says of the bytes of a text
abbrev pub PlanSays : AnswerForm → List ℕ → Said → Type 0
PlanSays form text words = SaysPlan form (queue_of text) words
