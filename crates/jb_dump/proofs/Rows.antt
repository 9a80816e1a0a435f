-- Rows that are made copy by copy: each home with how many copies it has.
use Rattle.std.proofs.Common.{◌≡◌, ◌≢◌, ◌⊎◌, ℕ, ◌+◌, ◌<◌, ◌≤◌, Bool, true, false, List, [], ◌∷◌, ◌++◌, map, Some, Less, Equal, Greater, inl, inr, refl, sym, ap, ap₂, ◌∙◌, arith, append_assoc, append-nil, unwrap_or, nat_cmp}
use Rattle.std.specs.Prelude.{⊤, cond, nat_eq, if◌then◌else◌}
use Rattle.std.specs.BTreeMap.{insert_entry, is_at}
use Rattle.std.specs.Cmp.{nat_cmp_is}
use Rattle.std.specs.Map.{lookup}
use Rattle.std.proofs.lemmas.Bool.Decides.{nat_tests}
use Rattle.std.proofs.lemmas.Bool.{cases_eq, cases_order, eq-eqb, le-ltb, lt-ltb, ne_eqb}
use Rattle.std.proofs.lemmas.List.Sums.{sum_by_push}
use Rattle.jb_dump.specs.MostWritten.{copies_to, counted_up, home_among, homes_among, once_more, written_rows, writes_of}

-- ---- a home among others

module _ (home k : ℕ) (ks : List ℕ) where
  among-below : home < k → home_among home (k ∷ ks) ≡ home ∷ k ∷ ks
  among-below lt = rw (lt-ltb home k lt) refl

  among-same : home ≡ k → home_among home (k ∷ ks) ≡ k ∷ ks
  among-same same = rw (le-ltb home k (omega (arith, same)), eq-eqb home k same) refl

  among-above : k < home → home_among home (k ∷ ks) ≡ k ∷ home_among home ks
  among-above gt = rw (le-ltb home k (omega (arith, gt)), ne_eqb home k (omega (arith, gt))) refl

-- homes from a number on, in their order and each once
abbrev From : ℕ → List ℕ → Type 0
From n [] = ⊤
From n (k ∷ ks) = (n ≤ k) × From (k + 1) ks

from-among : (n home : ℕ) (ks : List ℕ) → n ≤ home → From n ks → From n (home_among home ks)
from-among n home [] least up = (least, tt)
from-among n home (k ∷ ks) least up =
    elim (cases_order home k) [
      | inl same ↦ rw (among-same home k ks same) up
      | inr (inl below) ↦ rw (among-below home k ks below) (least, (omega (arith, below), up.1))
      | inr (inr above) ↦ rw (among-above home k ks above) (up.0, from-among (k + 1) home ks (omega (arith, above)) up.1)
    ]

-- ---- a row among others

module _ (home v : ℕ) (e : ℕ × ℕ) (es : List (ℕ × ℕ)) where
  insert-below : home < e.0 → insert_entry nat_cmp (e ∷ es) home v ≡ (home, v) ∷ e ∷ es
  insert-below lt = rw (sym (nat_cmp_is home e.0 Less lt)) refl

  insert-same : home ≡ e.0 → insert_entry nat_cmp (e ∷ es) home v ≡ (e.0, v) ∷ es
  insert-same same = rw (sym (nat_cmp_is home e.0 Equal same)) refl

  insert-above : e.0 < home → insert_entry nat_cmp (e ∷ es) home v ≡ e ∷ insert_entry nat_cmp es home v
  insert-above gt = rw (sym (nat_cmp_is home e.0 Greater gt)) refl

-- rows of these homes, with a number for each
abbrev rows_by : (ℕ → ℕ) → List ℕ → List (ℕ × ℕ)
rows_by f ks = map (λ k. (k, f k)) ks

module _ (f g : ℕ → ℕ) (home : ℕ) (others : (k : ℕ) → k ≢ home → g k ≡ f k) where
  rest-same : (n : ℕ) (ks : List ℕ) → home < n → From n ks → rows_by f ks ≡ rows_by g ks
  rest-same n [] low up = refl
  rest-same n (k ∷ ks) low up =
      ap₂ (λ x rest. (k, x) ∷ rest) (sym (others k (omega (arith, low, up.0)))) (rest-same (k + 1) ks (omega (arith, low, up.0)) up.1)

  -- a number that is set is one more row, or the row's own
  sets : (n v : ℕ) (ks : List ℕ) → From n ks → g home ≡ v → insert_entry nat_cmp (rows_by f ks) home v ≡ rows_by g (home_among home ks)
  sets n v [] up new = ap (λ x. (home, x) ∷ []) (sym new)
  sets n v (k ∷ ks) up new =
      elim (cases_order home k) [
        | inl same ↦
            rw (insert-same home v (k, f k) (rows_by f ks) same, among-same home k ks same)
            (ap₂ (λ x more. (k, x) ∷ more) (sym new ∙ ap g same) (rest-same (k + 1) ks (omega (arith, same)) up.1))
        | inr (inl below) ↦
            rw (insert-below home v (k, f k) (rows_by f ks) below, among-below home k ks below)
            (ap₂ (λ x more. (home, x) ∷ more) (sym new) (rest-same (home + 1) (k ∷ ks) (omega arith) (omega (arith, below), up.1)))
        | inr (inr above) ↦
            rw (insert-above home v (k, f k) (rows_by f ks) above, among-above home k ks above)
            (ap₂ (λ x more. (k, x) ∷ more) (sym (others k (omega (arith, above)))) (sets (k + 1) v ks up.1 new))
      ]

-- ---- what is looked up in rows

is-at : (h k : ℕ) → is_at (nat_cmp h) k ≡ nat_eq h k
is-at h k = grind (arith, nat_tests)

writes-first : (e : ℕ × ℕ) (es : List (ℕ × ℕ)) (h : ℕ) → writes_of (e ∷ es) h ≡ (if nat_eq h e.0 then e.1 else writes_of es h)
writes-first e es h = rw (is-at h e.0) (by (nat_eq h e.0))
  where
    by : (test : Bool) → unwrap_or (cond test (Some e.1) (lookup (is_at (nat_cmp h)) es)) 0 ≡ (if test then e.1 else writes_of es h)
    by true = refl
    by false = refl

writes-insert : (es : List (ℕ × ℕ)) (home v h : ℕ) → writes_of (insert_entry nat_cmp es home v) h ≡ (if nat_eq h home then v else writes_of es h)
writes-insert [] home v h = writes-first (home, v) [] h
writes-insert (e ∷ es) home v h =
    elim (cases_order home e.0) [
      | inl same ↦ rw (insert-same home v e es same, writes-first (e.0, v) es h, writes-first e es h) (grind (arith, nat_tests, same))
      | inr (inl below) ↦ rw (insert-below home v e es below) (writes-first (home, v) (e ∷ es) h)
      | inr (inr above) ↦
          rw (insert-above home v e es above, writes-first e (insert_entry nat_cmp es home v) h, writes-first e es h, writes-insert es home v h)
          (grind (arith, nat_tests, above))
    ]

-- ---- copies that are counted

more-same : (done : List ℕ) (home : ℕ) → copies_to (done ++ home ∷ []) home ≡ copies_to done home + 1
more-same done home = rw (sum_by_push (λ x. cond (nat_eq x home) 1 0) done home, eq-eqb home home refl) refl

more-other : (done : List ℕ) (home k : ℕ) → k ≢ home → copies_to (done ++ home ∷ []) k ≡ copies_to done k
more-other done home k other = rw (sum_by_push (λ x. cond (nat_eq x k) 1 0) done home, ne_eqb home k (λ same. other (sym same))) (omega arith)

-- the rows say of each home how many of these copies it has
abbrev Says : List ℕ → List ℕ → Type 0
Says done ks = (h : ℕ) → writes_of (rows_by (copies_to done) ks) h ≡ copies_to done h

module _ (done ks : List ℕ) (home : ℕ) (up : From 0 ks) (says : Says done ks) where
  one-more : once_more (rows_by (copies_to done) ks) home ≡ rows_by (copies_to (done ++ home ∷ [])) (home_among home ks)
  one-more = sets (copies_to done) (copies_to (done ++ home ∷ [])) home (more-other done home) 0 (writes_of (rows_by (copies_to done) ks) home + 1) ks up
      (more-same done home ∙ ap (λ n. n + 1) (sym (says home)))

  abbrev was : ℕ → ℕ
  was h = writes_of (rows_by (copies_to done) ks) h

  said-by : (h : ℕ) → (h ≡ home) ⊎ (h ≡ home → ⊥) → (if nat_eq h home then was home + 1 else was h) ≡ copies_to (done ++ home ∷ []) h
  said-by h (inl same) = rw (same, eq-eqb home home refl) (ap (λ n. n + 1) (says home) ∙ sym (more-same done home))
  said-by h (inr other) = rw (ne_eqb h home other) (says h ∙ sym (more-other done home h other))

  says-more : Says (done ++ home ∷ []) (home_among home ks)
  says-more h = rw (← one-more, writes-insert (rows_by (copies_to done) ks) home (was home + 1) h) (said-by h (cases_eq h home))

counted : (done ks homes : List ℕ) → From 0 ks → Says done ks → counted_up (rows_by (copies_to done) ks) homes ≡ rows_by (copies_to (done ++ homes)) (homes_among ks homes)
counted done ks [] up says = ap (λ all. rows_by (copies_to all) ks) (sym (append-nil done))
counted done ks (home ∷ homes) up says =
    rw (one-more done ks home up says, ← append_assoc done (home ∷ []) homes)
    (counted (done ++ home ∷ []) (home_among home ks) homes (from-among 0 home ks (omega arith) up) (says-more done ks home up says))

pub rows-written : (homes : List ℕ) → counted_up [] homes ≡ written_rows homes
rows-written homes = counted [] [] homes tt (λ h. refl)
