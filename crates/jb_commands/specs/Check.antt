-- What `jb check` says of a queue text and the text of a certificate.
use Rattle.std.specs.Prelude.{◌≡◌, ℕ, Bool, true, false, List, [], ◌∷◌, Option, Some, None, Result, Ok, Err, codes}
use Rattle.std.specs.Prelude.{decimal, length}
use Rattle.jb_args.specs.declared.hint.Hint.TheVariants.{CertificateLength, CertificateSyntax}
use Rattle.jb_args.specs.declared.settings.AnswerForm.{AnswerForm}
use Rattle.jb_cost.specs.Cut.{piece_cost}
use Rattle.jb_cost.specs.declared.geometry.Geometry.{Geometry}
use Rattle.jb_queue.specs.Queue.{Queue, queue_of}
use Rattle.jb_queue.specs.declared.fault.QueueFault.{QueueFault}
use Rattle.jb_price.specs.Claims.{Claim, claim_of, read_of}
use Rattle.jb_price.specs.Verdict.{IsRight, Says}
use Rattle.jb_price.specs.declared.certificate.Cert.{Cert}
use Rattle.jb_price.specs.declared.fault.CertFault.{CertFault}
use Rattle.jb_price.specs.declared.fault.CertFault.TheVariants.{Syntax, Length, Memory}
use Rattle.jb_price.specs.declared.verdict.Reason.{Reason}
use Rattle.jb_price.specs.declared.verdict.Reason.TheVariants.{OpeningPrice, Undercut, NotACut, OverLimit, TotalDiffers}
use Rattle.jb_price.specs.declared.verdict.Reason.TheVariants.{EndPrice}
use Rattle.jb_price.specs.declared.verdict.Verdict.{Verdict}
use Rattle.jb_price.specs.declared.verdict.Verdict.TheVariants.{Accepted, Refused}
use Rattle.jb_json.specs.Facts.{Fact, Bare, Chosen, Named}
use Rattle.jb_commands.specs.AnswerForms.{text_in}
use Rattle.jb_commands.specs.QueueFaults.{queue_fault}
use Rattle.jb_commands.specs.TextFaults.{text_fault}
use Rattle.jb_commands.specs.Plan.{IsGeometryOf}
use Rattle.jb_commands.specs.AnswerSaid.{Said}

-- what is reported of a fault of a certificate: its name, and the bounds of its piece
abbrev pub reason_facts : Reason → List Fact
reason_facts OpeningPrice = Named (codes "reason") (Some (codes "OpeningPrice")) ∷ []
reason_facts (Undercut i j) =
    Named (codes "reason") (Some (codes "Undercut")) ∷ Bare (codes "from") i ∷ Bare (codes "to") j ∷ []
reason_facts NotACut = Named (codes "reason") (Some (codes "NotACut")) ∷ []
reason_facts (OverLimit i j) =
    Named (codes "reason") (Some (codes "OverLimit")) ∷ Bare (codes "from") i ∷ Bare (codes "to") j ∷ []
reason_facts TotalDiffers = Named (codes "reason") (Some (codes "TotalDiffers")) ∷ []
reason_facts EndPrice = Named (codes "reason") (Some (codes "EndPrice")) ∷ []

-- whether a certificate is accepted
abbrev pub accepted_fact : Bool → Fact
accepted_fact accepted = Chosen (codes "accepted") accepted (codes "accepted") (codes "refused")

-- what is reported of a verdict
abbrev pub verdict_facts : Verdict → List Fact
verdict_facts Accepted = accepted_fact true ∷ []
verdict_facts (Refused reason) = accepted_fact false ∷ reason_facts reason

-- the exit status of a verdict
abbrev pub verdict_status : Verdict → ℕ
verdict_status Accepted = 0
verdict_status (Refused reason) = 1

-- what is said of a verdict, in this form
abbrev pub verdict_text : AnswerForm → Verdict → Said
verdict_text form verdict =
    record { status = verdict_status verdict; out = text_in form (verdict_facts verdict); err = []; hint = None }

-- what is said of a text that is no certificate of the queue, in this form; none where memory ran out
abbrev pub cert_fault : AnswerForm → CertFault → Option Said
cert_fault form (Syntax line) =
    Some (text_fault form (codes "certificate Syntax") (line ∷ []) (codes "certificate: Syntax " ∷ decimal line ∷ [])
    CertificateSyntax)
cert_fault form Length =
    Some (text_fault form (codes "certificate Length") [] (codes "certificate: Length" ∷ []) CertificateLength)
cert_fault form Memory = None

-- the verdict on a certificate of the queue; where it is accepted, its answer is right
pub record IsVerdictOn (q : Queue) (cert : Cert) (verdict : Verdict) : Type 0 where
  pub geometry : Geometry
  pub own : IsGeometryOf q geometry
  pub says : Says (piece_cost geometry q.handles) q.limit (length q.handles) cert.prices.items cert.answer verdict
  pub right : verdict ≡ Accepted → IsRight (piece_cost geometry q.handles) q.limit (length q.handles) cert.answer

-- what `jb check` says of what the second text claims of the queue, or of that text's first fault
abbrev pub SaysOfClaim : AnswerForm → Queue → Result Claim CertFault → Said → Type 0
SaysOfClaim form q (Ok claim) words =
    (cert : Cert) × (verdict : Verdict) × (claim_of cert ≡ claim) × IsVerdictOn q cert verdict
    × (words ≡ verdict_text form verdict)
SaysOfClaim form q (Err fault) words = cert_fault form fault ≡ Some words

-- what `jb check` says of the bytes of the second text, where the first is a queue's
abbrev pub SaysCheck : AnswerForm → Queue → List ℕ → Said → Type 0
SaysCheck form q claim words = SaysOfClaim form q (read_of (length q.handles) claim) words

-- what `jb check` says of a queue, or of the first fault of its text, whatever the certificate
abbrev pub SaysOfBoth : AnswerForm → Result Queue QueueFault → List ℕ → Said → Type 0
SaysOfBoth form (Ok q) claim words = SaysCheck form q claim words
SaysOfBoth form (Err fault) claim words = queue_fault form fault ≡ Some words

-- what `jb check` says of the bytes of both texts
abbrev pub CheckSays : AnswerForm → List ℕ → List ℕ → Said → Type 0
CheckSays form text claim words = SaysOfBoth form (queue_of text) claim words
