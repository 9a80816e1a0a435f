use Rattle.std.proofs.Common.{rules, ◌≡◌, Err, inl, inr, sym}
use Rattle.std.proofs.lemmas.Result.{IfErr-weaker}
use Rattle.jb_handle.specs.declared.changes.TouchFault.TheVariants.{Memory}
use Rattle.jb_handle.proofs.AdmittedChange.{word-kept, on-memory}
use Rattle.jb_handle.proofs.changes.Changes.put.Goals as goal

pub keep-requires : goal.keep-requires
keep-requires c =
    let admitted = word-kept c.args.self.now c.args.home c.args.word.now c.admit.ensures.kept (rw (sym c.len.ensures) c.in_ok-admit.ensures.ok) in
    record { kept = rw c.in_ok-word.ensures.same admitted }

pub returns-in_err-admit-clause-refused : goal.returns-in_err-admit-clause-refused
returns-in_err-admit-clause-refused c =
    let fails : c.from_residual.result ≡ Err c.in_err-admit.field-0.0 = search rules in
    rw fails (inr (rw c.len.ensures at c.in_err-admit.ensures.err))

pub returns-in_err-admit-clause-memory : goal.returns-in_err-admit-clause-memory
returns-in_err-admit-clause-memory c =
    let fails : c.from_residual.result ≡ Err c.in_err-admit.field-0.0 = search rules in
    rw fails (λ same. absurd (c.in_err-admit.ensures.reason same))

pub returns-in_err-word-clause-memory : goal.returns-in_err-word-clause-memory
returns-in_err-word-clause-memory c =
    on-memory c.from_residual-in_err-word.result Memory (rw c.len.ensures at c.in_ok-admit.ensures.ok, λ free. let never = rw free at c.in_err-word.ensures.grows in absurd (let no : ⊥ = cc in no))

pub returns-clause-refused : goal.returns-clause-refused
returns-clause-refused c = IfErr-weaker c.keep.result _ _ (λ _ full. inl full) c.keep.ensures.refused

pub returns-clause-memory : goal.returns-clause-memory
returns-clause-memory c = IfErr-weaker c.keep.result _ _ (λ _ new _. (rw c.len.ensures at c.in_ok-admit.ensures.ok, λ _. new)) c.keep.ensures.new

pub returns-clause-ok : goal.returns-clause-ok
returns-clause-ok c = rw c.in_ok-word.ensures.same at c.keep.ensures.ok
