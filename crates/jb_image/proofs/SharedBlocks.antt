-- The lowest block that stands in two of extents in the order of their first blocks.
use Rattle.std.specs.Bool.{⊤}
use Rattle.std.proofs.Common.{◌≡◌, ◌<◌, ◌≤◌, ◌+◌, ℕ, suc, true, if◌then◌else◌, List, [], ◌∷◌, drop, length, Option, Some, None, refl, sym, ◌∙◌, ap, subst, arith}
use Rattle.std.specs.Prelude.{nat_lt, get_or, IsPermutation}
use Rattle.std.specs.List.Sorted.{IsNonDecreasingBy}
use Rattle.std.specs.List.{sum_by}
use Rattle.std.proofs.lemmas.Bool.{cond_both, le-ltb, ltb-false, ltb-true}
use Rattle.std.proofs.lemmas.List.{drop_all, drop_more}
use Rattle.std.proofs.lemmas.Bool.Decides.{nat_tests}
use Rattle.std.proofs.lemmas.List.Sums.{sum_by-cons}
use Rattle.std.proofs.lemmas.List.Sorted.{sum_by-IsPermutation}
use Rattle.jb_map.specs.Blocks.{has_block}
use Rattle.jb_image.specs.Lists.{SharesFirst, reaches_to, times}
use Rattle.jb_map.specs.declared.extent.Extent.{Extent}

-- what the loop over further extents finds, by the one before that is not empty
abbrev pub lowest_from : Option Extent → List Extent → Option ℕ
lowest_from before [] = None
lowest_from before (e ∷ es) =
    if nat_lt e.last e.first then lowest_from before es
    else if reaches_to before e.first then Some e.first
    else lowest_from (Some e) es

-- ---- in order

-- none of them begins before a block
abbrev Above : ℕ → List Extent → Type 0
Above b [] = ⊤
Above b (e ∷ es) = (b ≤ e.first) × Above b es

-- each begins no later than those after it
abbrev Rises : List Extent → Type 0
Rises [] = ⊤
Rises (e ∷ es) = Above e.first es × Rises es

above-from : (b : ℕ) (es : List Extent) → ((j : ℕ) (d : Extent) → j < length es → b ≤ (get_or es j d).first) → Above b es
above-from b [] low = tt
above-from b (e ∷ es) low = (low 0 e (omega arith), above-from b es (λ j d within. low (suc j) d (omega (arith, within))))

pub rises-from : (es : List Extent) → IsNonDecreasingBy (λ e. e.first) es → Rises es
rises-from [] up = tt
rises-from (e ∷ es) up =
    (above-from e.first es (λ j d within. up 0 (suc j) d (omega arith) (omega (arith, within))), rises-from es (λ i j d before within. up (suc i) (suc j) d (omega (arith, before)) (omega (arith, within))))

-- ---- how many have a block

-- none has one below their first ones
times-below : (b : ℕ) (es : List Extent) → Above b es → (c : ℕ) → c < b → times es c ≡ 0
times-below b [] above c below = refl
times-below b (f ∷ fs) above c below = grind (arith, nat_tests, above.0, times-below b fs above.1 c below)

-- lists that have each block as often share the same ones
shares-same : (xs ys : List Extent) → ((b : ℕ) → times xs b ≡ times ys b) → (r : Option ℕ) → SharesFirst xs r → SharesFirst ys r
shares-same xs ys same None shares = λ b. rw (sym (same b)) (shares b)
shares-same xs ys same (Some b) shares = (rw (sym (same b)) shares.0, λ c below. rw (sym (same c)) (shares.1 c below))

times-sum : (b : ℕ) (es : List Extent) → times es b ≡ sum_by (λ e. if has_block e b then 1 else 0) es
times-sum b [] = refl
times-sum b (e ∷ es) = ap (λ n. (if has_block e b then 1 else 0) + n) (times-sum b es) ∙ sym (sum_by-cons (λ e. if has_block e b then 1 else 0) e es)

-- the order of the extents does not count
pub shares-sorted : (es rising : List Extent) → IsPermutation es rising → (r : Option ℕ) → SharesFirst rising r → SharesFirst es r
shares-sorted es rising moved r shares =
    shares-same rising es (λ b. times-sum b rising ∙ sum_by-IsPermutation (λ e. if has_block e b then 1 else 0) es rising moved ∙ sym (times-sum b es)) r shares

-- ---- the lowest of two

-- an extent that is empty has no block
times-empty : (p e : Extent) (es : List Extent) → e.last < e.first → (b : ℕ) → times (p ∷ es) b ≡ times (p ∷ e ∷ es) b
times-empty p e es empty b = grind (arith, nat_tests)

times-alone : (e : Extent) (es : List Extent) → e.last < e.first → (b : ℕ) → times es b ≡ times (e ∷ es) b
times-alone e es empty b = grind (arith, nat_tests)

-- the first of two that meet
shares-here : (p e : Extent) (es : List Extent) → p.first ≤ e.first → e.first ≤ e.last → e.first ≤ p.last → Above e.first es → SharesFirst (p ∷ e ∷ es) (Some e.first)
shares-here p e es after forward met above = (grind (arith, nat_tests), λ c below. grind (arith, nat_tests, times-below e.first es above c below))

-- an extent that ends before the others begin
shares-later : (p e : Extent) (es : List Extent) → p.last < e.first → Above e.first es → (r : Option ℕ) → SharesFirst (e ∷ es) r → SharesFirst (p ∷ e ∷ es) r
shares-later p e es ends above None shares = λ b. grind (arith, nat_tests, times-below e.first es above b, shares b)
shares-later p e es ends above (Some s) shares =
    (grind (arith, nat_tests, shares.0), λ c below. grind (arith, nat_tests, times-below e.first es above c, shares.1 c below))

lowest-some : (p : Extent) (es : List Extent) → p.first ≤ p.last → Rises (p ∷ es) → SharesFirst (p ∷ es) (lowest_from (Some p) es)
lowest-some p [] forward up = λ b. grind (arith, nat_tests)
lowest-some p (e ∷ es) forward up =
    let rest = if reaches_to (Some p) e.first then Some e.first else lowest_from (Some e) es in
    cond_both (nat_lt e.last e.first) (lowest_from (Some p) es) rest (λ r. SharesFirst (p ∷ e ∷ es) r)
    (λ empty. shares-same (p ∷ es) (p ∷ e ∷ es) (times-empty p e es (ltb-true e.last e.first empty)) (lowest_from (Some p) es) (lowest-some p es forward (up.0.1, up.1.1)))
    (λ full. cond_both (reaches_to (Some p) e.first) (Some e.first) (lowest_from (Some e) es) (λ r. SharesFirst (p ∷ e ∷ es) r)
    (λ met. shares-here p e es up.0.0 (ltb-false e.last e.first full) (grind (arith, nat_tests, met)) up.1.0)
    (λ past. shares-later p e es (grind (arith, nat_tests, past)) up.1.0 (lowest_from (Some e) es) (lowest-some e es (ltb-false e.last e.first full) up.1)))

pub lowest-none : (es : List Extent) → Rises es → SharesFirst es (lowest_from None es)
lowest-none [] up = λ b. omega arith
lowest-none (e ∷ es) up =
    cond_both (nat_lt e.last e.first) (lowest_from None es) (lowest_from (Some e) es) (λ r. SharesFirst (e ∷ es) r)
    (λ empty. shares-same es (e ∷ es) (times-alone e es (ltb-true e.last e.first empty)) (lowest_from None es) (lowest-none es up.1))
    (λ full. lowest-some e es (ltb-false e.last e.first full) up)

-- ---- the loop

-- it has found the lowest at an extent
pub found-here : (es : List Extent) (before : Option Extent) (k : ℕ) (d : Extent) → k < length es → (get_or es k d).first ≤ (get_or es k d).last → reaches_to before (get_or es k d).first ≡ true
    → lowest_from before (drop k es) ≡ lowest_from None es → IsNonDecreasingBy (λ e. e.first) es → SharesFirst es (Some (get_or es k d).first)
found-here es before k d within forward met so_far up =
    let e = get_or es k d in
    let is : lowest_from before (drop k es) ≡ Some e.first = rw (drop_more es k d within, le-ltb e.last e.first forward, met) refl in
    subst (SharesFirst es) (sym so_far ∙ is) (lowest-none es (rises-from es up))

-- or has found none at the end
pub found-none : (es : List Extent) (before : Option Extent) (k : ℕ) → length es ≤ k → lowest_from before (drop k es) ≡ lowest_from None es → IsNonDecreasingBy (λ e. e.first) es → SharesFirst es None
found-none es before k past so_far up =
    subst (SharesFirst es) (sym so_far ∙ ap (lowest_from before) (drop_all k es past)) (lowest-none es (rises-from es up))
