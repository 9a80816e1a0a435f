use Rattle.std.proofs.Common.{◌≡◌, ℕ, ◌-◌, List, [], ◌∷◌, ◌++◌, length, take, Result, Ok, Err, OnOk, refl, sym, ap, subst, ◌∙◌, arith, append-nil}
use Rattle.std.specs.Prelude.{IsOk}
use Rattle.std.proofs.lemmas.List.{same_from_push}
use Rattle.jb_journal.specs.Run.{AllSettled}
use Rattle.jb_journal.specs.declared.ran.Ran.{Ran}
use Rattle.example_store.specs.Keeps.{EndedWell}
use Rattle.example_store.specs.declared.failed.Failed.{Failed}
use Rattle.example_store.specs.declared.served.Served.{Served}
use Rattle.example_store.proofs.last_answer.Goals as goal

-- the last answer is the only one
one-whole : {D : Type 0} (ran : Ran Served D) → AllSettled ran → (front : List Served) (served : Served) → ran.answers.items ≡ front ++ served ∷ [] → (ended : Result (Unit {0}) Failed) → served.ended ≡ ended → OnOk ended (EndedWell ran)
one-whole ran settled front served are (Err failed) ends = tt
one-whole ran settled front served are (Ok unit) ends =
    (settled, λ one is. subst (λ (r : Result (Unit {0}) Failed). IsOk r) (sym (ap (λ (x : Served). x.ended) (same_from_push [] front one served (sym is ∙ are)).1 ∙ ends)) refl)

-- there is none
none-whole : {D : Type 0} (ran : Ran Served D) → AllSettled ran → ran.answers.items ≡ [] → EndedWell ran
none-whole ran settled none = (settled, λ one is. absurd (let long = ap length (sym is ∙ none) in let never : ⊥ = omega (arith, long) in never))

none-left : (n : ℕ) (items front : List Served) → n ≡ 0 → front ≡ take (n - 1) items → front ≡ []
none-left n items front zero is = is ∙ ap (λ k. take k items) (let none : n - 1 ≡ 0 = omega (arith, zero) in none)

pub returns-in-Some : goal.returns-in-Some
returns-in-Some c d =
    let given = d.in_ok-answers.ensures in
    one-whole d.args.ran given.0 d.pop.new.self.items d.in-Some.field-0 (ap (λ v. v.items) (sym given.1) ∙ d.in-Some.ensures.items) d.in-Some.field-0.ended refl

pub returns : goal.returns
returns c d =
    let given = d.in_ok-answers.ensures in
    let none = d.in-None.ensures in
    none-whole d.args.ran given.0
    (ap (λ v. v.items) (sym given.1) ∙ none.items ∙ append-nil d.pop.new.self.items
    ∙ none-left _ d.in_ok-answers.answers.items d.pop.new.self.items none.cases.0 none.rest)
