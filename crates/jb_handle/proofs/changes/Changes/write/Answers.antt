use Rattle.std.proofs.Common.{rules, ◌≡◌, Err}
use Rattle.jb_handle.specs.declared.word.Word.TheVariants.{Copy}
use Rattle.jb_handle.specs.declared.changes.TouchFault.TheVariants.{Memory}
use Rattle.jb_handle.proofs.AdmittedChange.{word-kept, on-memory}
use Rattle.jb_handle.proofs.changes.Changes.write.Goals as goal

pub keep-requires : goal.keep-requires
keep-requires c = record { kept = word-kept c.args.self.now c.args.home (Copy c.in_ok-payload.payload) c.admit.ensures.kept (rw (c.in_ok-payload.ensures) c.in_ok-admit.ensures.ok) }

pub returns-in_err-admit-clause-memory : goal.returns-in_err-admit-clause-memory
returns-in_err-admit-clause-memory c =
    let fails : c.from_residual.result ≡ Err c.in_err-admit.field-0.0 = search rules in
    rw fails (λ same. absurd (c.in_err-admit.ensures.reason same))

pub returns-in_err-payload-clause-memory : goal.returns-in_err-payload-clause-memory
returns-in_err-payload-clause-memory c = on-memory c.from_residual-in_err-payload.result Memory c.in_ok-admit.ensures.ok

pub returns-clause-memory : goal.returns-clause-memory
returns-clause-memory c = on-memory c.keep.result Memory c.in_ok-admit.ensures.ok
