-- Two lists of extents, compared stretch by stretch.
use Rattle.std.proofs.Common.{◌≡◌, ◌<◌, ◌≤◌, ◌+◌, ◌-◌, ◌^◌, ℕ, true, false, List, [], ◌∷◌, drop, length, min, get_or, Some, None, refl, sym, ◌∙◌, ap, arith, ⊎_elim}
use Rattle.std.specs.Prelude.{◌==◌, if◌then◌else◌, nat_lt}
use Rattle.std.proofs.lemmas.Bool.{cases_Bool, cases_lt, cond_both, eqb-false, eqb-true, le-ltb, lt-ltb, ltb-false, ltb-true}
use Rattle.std.proofs.lemmas.List.{drop_all, drop_more, get_or_default}
use Rattle.std.proofs.lemmas.Option.{none-some, same_Some}
use Rattle.jb_map.specs.Blocks.{extent_count}
use Rattle.jb_image.specs.Lists.{PartsFirst, extents_count, extents_count_from, place_within}
use Rattle.jb_map.specs.declared.extent.Extent.{Extent}

-- ---- one list

-- a block of the first extent
pub place-head : (e : Extent) (es : List Extent) (k : ℕ) → k < extent_count e → place_within (e ∷ es) k ≡ Some (e.first + k)
place-head e es k within = let inside : nat_lt k (extent_count e) ≡ true = lt-ltb k (extent_count e) within in rw inside refl

-- a block of those after it
place-tail : (e : Extent) (es : List Extent) (k : ℕ) → place_within (e ∷ es) (extent_count e + k) ≡ place_within es k
place-tail e es k =
    let outside : nat_lt (extent_count e + k) (extent_count e) ≡ false = le-ltb (extent_count e + k) (extent_count e) (omega arith) in
    let less : extent_count e + k - extent_count e ≡ k = omega arith in
    rw outside (ap (place_within es) less)

-- a place that is there is below their count
count-least : (sum : ℕ) (es : List Extent) → sum ≤ 2 ^ 64 - 1 → sum ≤ extents_count_from sum es
count-least sum [] most = omega arith
count-least sum (e ∷ es) most = omega (arith, count-least (min (sum + extent_count e) (2 ^ 64 - 1)) es (omega arith))

place-below : (sum : ℕ) (es : List Extent) (p b : ℕ) → sum ≤ 2 ^ 64 - 1 → place_within es p ≡ Some b → extents_count_from sum es < 2 ^ 64 - 1 → sum + p < extents_count_from sum es
place-below sum [] p b most is few = absurd (none-some b is)
place-below sum (e ∷ es) p b most is few =
    let now = min (sum + extent_count e) (2 ^ 64 - 1) in
    let least = count-least now es (omega arith) in
    ⊎_elim
    (λ here. omega (arith, least, few, here))
    (λ past.
    let outside : nat_lt p (extent_count e) ≡ false = le-ltb p (extent_count e) past in
    let later : place_within es (p - extent_count e) ≡ Some b = rw outside at is in
    omega (arith, least, few, past, place-below now es (p - extent_count e) b (omega arith) later few))
    (cases_lt p (extent_count e))

-- the place `at` of a list is block `a` of its extent i, and so on
pub record Stands (es : List Extent) (at i a : ℕ) : Type 0 where
  pub same : (k : ℕ) → place_within es (at + k) ≡ place_within (drop i es) (a + k)
  pub within : (d : Extent) → i < length es → a < extent_count (get_or es i d)

pub stands-start : (es : List Extent) → Stands es 0 0 0
stands-start es = record { same = λ k. refl; within = λ d some. omega arith }

module _ {es : List Extent} {at i a : ℕ} (stands : Stands es at i a) where
  module _ (d : Extent) (some : i < length es) where
    abbrev here : Extent
    here = get_or es i d

    -- a block of that extent
    pub stands-has : (k : ℕ) → a + k < extent_count here → place_within es (at + k) ≡ Some (here.first + (a + k))
    stands-has k inside = stands.same k ∙ ap (λ rest. place_within rest (a + k)) (drop_more es i d some) ∙ place-head here (drop (i + 1) es) (a + k) inside

    -- so it is below the count of the list
    pub stands-below : (k : ℕ) → a + k < extent_count here → extents_count es < 2 ^ 64 - 1 → at + k < extents_count es
    stands-below k inside few =
        let below = place-below 0 es (at + k) (here.first + (a + k)) (omega arith) (stands-has k inside) few in
        omega (arith, below)

    -- some more of its blocks
    pub stands-more : (both : ℕ) → both ≤ extent_count here - a
        → Stands es (at + both) (if both == extent_count here - a then i + 1 else i) (if both == extent_count here - a then 0 else a + both)
    stands-more both most =
        let left = extent_count here - a in
        let inside = stands.within d some in
        ⊎_elim
        (λ all. let whole : (both == left) ≡ true = all in rw whole (record {
          same = λ k.
              let past : a + (both + k) ≡ extent_count here + k = omega (arith, inside, eqb-true both left all) in
              let sum : at + both + k ≡ at + (both + k) = omega arith in
              ap (place_within es) sum ∙ stands.same (both + k) ∙ ap (λ rest. place_within rest (a + (both + k))) (drop_more es i d some) ∙ ap (place_within (here ∷ drop (i + 1) es)) past ∙ place-tail here (drop (i + 1) es) k
              ∙ (let none : k ≡ 0 + k = omega arith in ap (place_within (drop (i + 1) es)) none);
          within = λ d more. omega arith;
        }))
        (λ part. let some_left : (both == left) ≡ false = part in rw some_left (record {
          same = λ k.
              let sum : at + both + k ≡ at + (both + k) = omega arith in
              let own : a + (both + k) ≡ a + both + k = omega arith in
              ap (place_within es) sum ∙ stands.same (both + k) ∙ ap (place_within (drop i es)) own;
          within = λ d' more.
              let less : both < left = ⊎_elim (λ below. below) (λ above. absurd (eqb-false both left part (omega (arith, most, above)))) (cases_lt both left) in
              rw (get_or_default es i d' d some) (omega (arith, less, inside));
        }))
        (cases_Bool (both == left))

  -- no block, where there is no such extent
  pub stands-past : length es ≤ i → (k : ℕ) → place_within es (at + k) ≡ None
  stands-past past k = stands.same k ∙ ap (λ rest. place_within rest (a + k)) (drop_all i es past)

-- ---- both lists

-- they have the same blocks below a place
abbrev pub AreAlike : List Extent → List Extent → ℕ → Type 0
AreAlike es fs at = (k : ℕ) → k < at → place_within es k ≡ place_within fs k

module _ {es fs : List Extent} {at i a j b : ℕ} (one : Stands es at i a) (other : Stands fs at j b) (alike : AreAlike es fs at) where
  -- and so at some more
  pub alike-more : (d d' : Extent) → i < length es → j < length fs → (both : ℕ) → both ≤ extent_count (get_or es i d) - a → both ≤ extent_count (get_or fs j d') - b
      → (get_or es i d).first + a ≡ (get_or fs j d').first + b → AreAlike es fs (at + both)
  alike-more d d' some some' both most most' same k below = ⊎_elim
      (λ before. alike k before)
      (λ from.
      let m = k - at in
      let sum : at + m ≡ k = omega (arith, from) in
      let inside = one.within d some in
      let inside' = other.within d' some' in
      let equal : (get_or es i d).first + (a + m) ≡ (get_or fs j d').first + (b + m) = omega (arith, same) in
      ap (place_within es) (sym sum) ∙ stands-has one d some m (omega (arith, from, below, most, inside)) ∙ ap Some equal
      ∙ sym (stands-has other d' some' m (omega (arith, from, below, most', inside'))) ∙ ap (place_within fs) sum)
      (cases_lt k at)

  -- they part where the blocks differ
  pub parts-here : (d d' : Extent) → i < length es → j < length fs → ((get_or es i d).first + a ≡ (get_or fs j d').first + b → ⊥) → PartsFirst es fs (Some at)
  parts-here d d' some some' differ =
      let add : at + 0 ≡ at = omega arith in
      let here = rw add at (stands-has one d some 0 (omega (arith, one.within d some))) in
      let there = rw add at (stands-has other d' some' 0 (omega (arith, other.within d' some'))) in
      (λ same. differ (omega (arith, same_Some _ _ (sym here ∙ same ∙ there))), alike)

  -- or where one of them has ended
  pub parts-first : (d : Extent) → i < length es → length fs ≤ j → PartsFirst es fs (Some at)
  parts-first d some past' =
      let add : at + 0 ≡ at = omega arith in
      let here = rw add at (stands-has one d some 0 (omega (arith, one.within d some))) in
      let there = rw add at (stands-past other past' 0) in
      (λ same. none-some _ (sym there ∙ sym same ∙ here), alike)

  pub parts-second : (d' : Extent) → length es ≤ i → j < length fs → PartsFirst es fs (Some at)
  parts-second d' past some' =
      let add : at + 0 ≡ at = omega arith in
      let here = rw add at (stands-past one past 0) in
      let there = rw add at (stands-has other d' some' 0 (omega (arith, other.within d' some'))) in
      (λ same. none-some _ (sym here ∙ same ∙ there), alike)

  -- or they do not part
  pub parts-nowhere : length es ≤ i → length fs ≤ j → PartsFirst es fs None
  parts-nowhere past past' = λ k. ⊎_elim
      (λ before. alike k before)
      (λ from.
      let sum : at + (k - at) ≡ k = omega (arith, from) in
      ap (place_within es) (sym sum) ∙ stands-past one past (k - at) ∙ sym (stands-past other past' (k - at)) ∙ ap (place_within fs) sum)
      (cases_lt k at)

  -- the first has ended
  pub parts-ended : length es ≤ i → PartsFirst es fs (if nat_lt j (length fs) then Some at else None)
  parts-ended past = cond_both (nat_lt j (length fs)) (Some at) None (PartsFirst es fs)
      (λ more. parts-second (record { first = 0; last = 0 }) past (ltb-true j (length fs) more))
      (λ over. parts-nowhere past (ltb-false j (length fs) over))

-- as many places as there are
pub fits-more : {es : List Extent} {at i a : ℕ} → Stands es at i a → (d : Extent) → i < length es → (both : ℕ) → both ≤ extent_count (get_or es i d) - a → extents_count es < 2 ^ 64 - 1 → at + both < 2 ^ 64
fits-more {at = at} stands d some both most few = ⊎_elim
    (λ more. omega (arith, more, few, stands-below stands d some (both - 1) (omega (arith, more, most)) few))
    (λ none. omega (arith, none, few, stands-below stands d some 0 (omega (arith, stands.within d some)) few))
    (cases_lt 0 both)
