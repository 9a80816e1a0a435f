use Rattle.std.proofs.Common.{◌≡◌, [], ◌∷◌, Some, ap, decimal, sym}
use Rattle.std.specs.Prelude.{codes}
use Rattle.jb_args.specs.declared.hint.Hint.TheVariants.{CertificateSyntax}
use Rattle.jb_price.specs.declared.fault.CertFault.TheVariants.{Syntax}
use Rattle.jb_commands.specs.AnswerSaid.{said}
use Rattle.jb_commands.specs.Check.{cert_fault}
use Rattle.jb_commands.specs.TextFaults.{text_fault}
use Rattle.jb_commands.proofs.Verdicts.{if_ok_then}
use Rattle.jb_commands.proofs.check.syntax_told.Goals as goal

pub returns : goal.returns
returns c =
    let line = c.args.line in
    let told = text_fault c.args.form (codes "certificate Syntax") (line ∷ []) (codes "certificate: Syntax " ∷ decimal line ∷ []) CertificateSyntax in
    record {
      said = if_ok_then (λ answer. said answer ≡ told) (λ answer. cert_fault c.args.form (Syntax line) ≡ Some (said answer)) c.fault.result
          (rw c.format.ensures.text at c.fault.ensures) (λ answer is. ap Some (sym is));
    }
