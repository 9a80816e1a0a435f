use Rattle.std.proofs.Common.{◌≡◌, ℕ, zero, suc, ◌+◌, false, List, [], ◌∷◌, ◌++◌, length, get_or, Some, slice_get, refl, ap, subst, ◌∙◌, arith, length-append, append-nil}
use Rattle.std.proofs.lemmas.Option.{same_Some}
use Rattle.jb_book.specs.Since.{AreGroups}
use Rattle.proof_clients.specs.ExampleMarks.{two_entries}
use Rattle.proof_clients.proofs.examples.closing.ends_between.Goals as goal

pub returns-clause-meets : goal.returns-clause-meets
returns-clause-meets g c = record { early = []; late = []; is = refl; all = λ up. refl }

pub returns-clause-meets_taken : goal.returns-clause-meets_taken
returns-clause-meets_taken g c = record { early = 0 ∷ []; late = []; is = refl; all = λ up. refl }

pub returns-clause-meets_left : goal.returns-clause-meets_left
returns-clause-meets_left g c given image long is = record { groups = 1; many = 1; between = refl; from = omega arith; to = omega (arith, long); recovered = is }

-- a cut whose last groups are those of the trail
last-two : (bounds : List ℕ) → (is : AreGroups false two_entries bounds) → bounds ≡ is.early ++ 0 ∷ 1 ∷ 3 ∷ []
last-two bounds is = is.is ∙ ap (λ l. (is.early ++ 0 ∷ 1 ∷ 3 ∷ []) ++ l) (is.all refl) ∙ append-nil (is.early ++ 0 ∷ 1 ∷ 3 ∷ [])

never-four : (early : List ℕ) (a b : ℕ) → (0 ∷ 1 ∷ a ∷ b ∷ []) ≡ early ++ 0 ∷ 1 ∷ 3 ∷ [] → ⊥
never-four [] a b is = let four = ap length is in omega (arith, four)
never-four (x ∷ []) a b is = let one : 1 ≡ 0 = ap (λ l. get_or l 1 0) is in omega (arith, one)
never-four (x ∷ y ∷ early) a b is = let four : 4 ≡ suc (suc (length (early ++ 0 ∷ 1 ∷ 3 ∷ []))) = ap length is in let all = length-append early (0 ∷ 1 ∷ 3 ∷ []) in omega (arith, four, all)

pub returns-clause-not_divided : goal.returns-clause-not_divided
returns-clause-not_divided g c is = never-four is.early 2 3 (last-two (0 ∷ 1 ∷ 2 ∷ 3 ∷ []) is)

pub returns-clause-not_joined : goal.returns-clause-not_joined
returns-clause-not_joined g c is =
    let two : 2 ≡ length (is.early ++ 0 ∷ 1 ∷ 3 ∷ []) = ap length (last-two (0 ∷ 3 ∷ []) is) in
    let all = length-append is.early (0 ∷ 1 ∷ 3 ∷ []) in
    omega (arith, two, all)

pub returns-clause-not_further : goal.returns-clause-not_further
returns-clause-not_further g c is = never-four is.early 3 4 (last-two (0 ∷ 1 ∷ 3 ∷ 4 ∷ []) is)

-- the first groups have none, one or three of the handles
never-two : (k n : ℕ) → slice_get (0 ∷ 1 ∷ 3 ∷ []) k ≡ Some n → n ≡ 2 → ⊥
never-two zero n at two = let same = same_Some 0 n at in omega (arith, same, two)
never-two (suc zero) n at two = let same = same_Some 1 n at in omega (arith, same, two)
never-two (suc (suc zero)) n at two = let same = same_Some 3 n at in omega (arith, same, two)
never-two (suc (suc (suc k))) n at two = absurd (cc)

pub returns-clause-not_within : goal.returns-clause-not_within
returns-clause-not_within g c given least image left two = never-two left.groups left.many left.between two

pub returns-clause-not_number : goal.returns-clause-not_number
returns-clause-not_number g c given least image left three one =
    let same = same_Some 1 left.many (subst (λ k. slice_get (0 ∷ 1 ∷ 3 ∷ []) k ≡ Some left.many) one left.between) in
    omega (arith, same, three)
