-- The entries of a map by their keys: how many there are, and what they add up to.
use Rattle.std.proofs.Common.{◌≡◌, ℕ, suc, ◌+◌, ◌≤◌, Bool, true, false, cond, List, [], ◌∷◌, length, Option, Some, None, Less, Equal, Greater, refl, ap, le_refl, arith, sum_by, unwrap_or, option_map}
use Rattle.std.proofs.lemmas.Bool.{both_ways}
use Rattle.std.proofs.lemmas.List.Sums.{sum_by-cons}
use Rattle.std.proofs.lemmas.Map.Entries.{sum_by-remove_entry}
use Rattle.std.specs.Ordering.{nat_cmp, match_ordering, is_eq}
use Rattle.std.specs.BTreeMap.{insert_entry, is_at}
use Rattle.std.specs.Map.{lookup, remove_entry, values_of}

-- a look-up that misses passes over the first entry
pub missed : {V : Type 0} (b : Bool) (h : V) (rest : Option V) → cond b (Some h) rest ≡ None → (b ≡ false) × (rest ≡ None)
missed true h rest is = absurd (let h : ⊥ = cc in h)
missed false h rest is = (refl, is)

-- a new key adds its value
pub sum-insert : {V : Type 0} (f : V → ℕ) (es : List (ℕ × V)) (k : ℕ) (v : V) → lookup (is_at (nat_cmp k)) es ≡ None → sum_by f (values_of (insert_entry nat_cmp es k v)) ≡ sum_by f (values_of es) + f v
sum-insert f [] k v none = let one = sum_by-cons f v [] in omega arith
sum-insert f (e ∷ es) k v none =
    let miss = missed (is_at (nat_cmp k) e.0) e.1 (lookup (is_at (nat_cmp k)) es) none in
    let rest = sum-insert f es k v miss.1 in
    elim (nat_cmp k e.0) as (λ o. nat_cmp k e.0 ≡ o → sum_by f (values_of (match_ordering o ((k, v) ∷ e ∷ es) ((e.0, v) ∷ es) (e ∷ insert_entry nat_cmp es k v))) ≡ sum_by f (values_of (e ∷ es)) + f v) [
      | Less ↦ λ is. omega (arith, sum_by-cons f v (values_of (e ∷ es)))
      | Equal ↦ λ is. absurd (both_ways (is_at (nat_cmp k) e.0) miss.0 (ap is_eq is))
      | Greater ↦ λ is. omega (arith, rest, sum_by-cons f e.1 (values_of (insert_entry nat_cmp es k v)), sum_by-cons f e.1 (values_of es))
    ] refl

-- a key that goes takes its value
pub sum-remove : {V : Type 0} (f : V → ℕ) (test : ℕ → Bool) (es : List (ℕ × V)) (v : V) → lookup test es ≡ Some v → sum_by f (values_of (remove_entry test es)) + f v ≡ sum_by f (values_of es)
sum-remove f test es v there = let all = sum_by-remove_entry f test es in let had = ap (λ found. unwrap_or (option_map f found) 0) there in omega (arith, all, had)

pub length-insert_entry : {V : Type 0} (es : List (ℕ × V)) (k : ℕ) (v : V) → length (insert_entry nat_cmp es k v) ≤ length es + 1
length-insert_entry [] k v = le_refl 1
length-insert_entry (e ∷ es) k v =
    let rest = length-insert_entry es k v in
    elim (nat_cmp k e.0) as (λ o. length (match_ordering o ((k, v) ∷ e ∷ es) ((e.0, v) ∷ es) (e ∷ insert_entry nat_cmp es k v)) ≤ suc (length es) + 1) [ Less ↦ omega arith | Equal ↦ omega arith | Greater ↦ omega arith ]

pub length-remove_entry : {V : Type 0} (test : ℕ → Bool) (es : List (ℕ × V)) (v : V) → lookup test es ≡ Some v → length (remove_entry test es) + 1 ≡ length es
length-remove_entry test [] v is = absurd (let h : ⊥ = cc in h)
length-remove_entry test (e ∷ es) v is = grind (arith, length-remove_entry test es v)
