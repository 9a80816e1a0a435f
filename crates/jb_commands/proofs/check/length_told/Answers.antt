use Rattle.std.proofs.Common.{◌≡◌, [], ◌∷◌, Some, ap, decimal, sym}
use Rattle.std.specs.Prelude.{codes}
use Rattle.jb_args.specs.declared.hint.Hint.TheVariants.{CertificateLength}
use Rattle.jb_price.specs.declared.fault.CertFault.TheVariants.{Length}
use Rattle.jb_commands.specs.AnswerSaid.{said}
use Rattle.jb_commands.specs.Check.{cert_fault}
use Rattle.jb_commands.specs.TextFaults.{text_fault}
use Rattle.jb_commands.proofs.Verdicts.{if_ok_then}
use Rattle.jb_commands.proofs.check.length_told.Goals as goal

pub returns : goal.returns
returns c =
    let told = text_fault c.args.form (codes "certificate Length") [] (codes "certificate: Length" ∷ []) CertificateLength in
    record {
      said = if_ok_then (λ answer. said answer ≡ told) (λ answer. cert_fault c.args.form Length ≡ Some (said answer)) c.fault.result c.fault.ensures (λ answer is. ap Some (sym is));
    }
