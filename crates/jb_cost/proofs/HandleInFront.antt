-- What a handle put in front of others adds to their homes.
use Rattle.std.proofs.Common.{◌≡◌, ℕ, ◌+◌, ◌<◌, Bool, true, false, cond, ◌||◌, T, List, [], ◌∷◌, Option, Some, None, refl, sym, ap, subst, ◌∙◌, arith, ◌≤◌, not, ◌&&◌, length, is_some, sum_by, count_by}
use Rattle.std.specs.List.Sorted.{IsStrictlySortedBy}
use Rattle.std.specs.Map.{keys_of, values_of, lookup}
use Rattle.std.specs.Ordering.{nat_cmp, eq_by_cmp}
use Rattle.std.specs.Cmp.{nat_cmp_total}
use Rattle.std.specs.BTreeMap.{is_at}
use Rattle.std.specs.FinMap.Entries.{below_all}
use Rattle.std.proofs.Math.Bool.{or-false, and-true, and-false}
use Rattle.std.proofs.lemmas.Bool.Decides.{nat_tests}
use Rattle.std.proofs.lemmas.List.Sums.{sum_by-cons}
use Rattle.std.specs.Option.{option_or}
use Rattle.std.proofs.lemmas.Bool.{and_parts, not-true}
use Rattle.jb_handle.proofs.RisingHomes.{both_parts, is_lt-less, ordered-rise}
use Rattle.jb_handle.proofs.TouchedHomes.{is_of, some-and, homes_of, copies-homes_of, frees-homes_of, contains-homes_of, contains-touched, contains-copies, contains-frees}
use Rattle.jb_handle.proofs.Trees.{find-looks}
use Rattle.jb_handle.specs.declared.word.Word.{Word}
use Rattle.jb_handle.specs.declared.stopped.Stopped.{Stopped}
use Rattle.jb_handle.specs.Word.{is_copy, is_free}
use Rattle.jb_handle.specs.Words.{word, touched, copies, frees}
use Rattle.jb_handle.specs.Size.{weight}
use Rattle.jb_cost.specs.NewHomes.{is_new, new_homes}
use Rattle.std.specs.FinMap as map
use Rattle.std.specs.FinSet as set

-- ---- the homes of the entries that pass a test, put into a set: which they are, and how many

module _ {W : Type 0} (p : ℕ × W → Bool) (s : set.FinSet nat_cmp) where
  -- the set, and the homes of the entries that pass
  abbrev pub picked : List (ℕ × W) → set.FinSet nat_cmp
  picked [] = s
  picked (e ∷ es) = cond (p e) (set.insert (picked es) e.0) (picked es)

  none-later : (b : ℕ) (es : List (ℕ × W)) → T (below_all nat_cmp b es) → map.find nat_cmp b es ≡ None
  none-later b [] h = refl
  none-later b (e ∷ es) h =
      let less : b < e.0 = is_lt-less b e.0 (both_parts _ _ h).0 in
      let apart : eq_by_cmp nat_cmp b e.0 ≡ false = grind (arith, nat_tests) in
      rw apart (none-later b es (both_parts _ _ h).1)

  -- whether what is found at home q passes
  abbrev pub passes_at : ℕ → Option W → Bool
  passes_at q = is_of (λ w. p (q, w))

  put-picked : (b t : Bool) (q : ℕ) (e : ℕ × W) (found : Option W) (old base : Bool) → p e ≡ b → old ≡ (passes_at q found || base) → (t ≡ true → (e.0 ≡ q) × (found ≡ None))
      → cond b (t || old) old ≡ (passes_at q (cond t (Some e.1) found) || base)
  put-picked true true q e found old base is so_far tied = ap (λ x. x || base) (sym is ∙ ap (λ h. p (h, e.1)) (tied refl).0)
  put-picked false true q e found old base is so_far tied = so_far ∙ ap (λ w. passes_at q w || base) (tied refl).1 ∙ ap (λ x. x || base) (sym is ∙ ap (λ h. p (h, e.1)) (tied refl).0)
  put-picked true false q e found old base is so_far tied = so_far
  put-picked false false q e found old base is so_far tied = so_far

  pub contains-picked : (es : List (ℕ × W)) → T (map.is_sorted nat_cmp es) → (q : ℕ) → set.contains (picked es) q ≡ (passes_at q (map.find nat_cmp q es) || set.contains s q)
  contains-picked [] h q = refl
  contains-picked (e ∷ es) h q =
      elim (p e) as (λ b. set.contains (cond b (set.insert (picked es) e.0) (picked es)) q ≡ cond b (eq_by_cmp nat_cmp q e.0 || set.contains (picked es) q) (set.contains (picked es) q)) [
        | true ↦ set.contains-insert nat_cmp_total (picked es) e.0 q
        | false ↦ refl
      ]
      ∙ put-picked (p e) (eq_by_cmp nat_cmp q e.0) q e _ _ (set.contains s q) refl (contains-picked es (both_parts _ _ h).1 q)
      (λ tied. let here : e.0 ≡ q = grind (arith, nat_tests) in (here, subst (λ b. map.find nat_cmp b es ≡ None) here (none-later e.0 es (both_parts _ _ h).0)))

  -- where the passing homes are not in the set, each counts
  pub len-picked : (es : List (ℕ × W)) → T (map.is_sorted nat_cmp es) → ((e : ℕ × W) → p e ≡ true → set.contains s e.0 ≡ false) → set.len (picked es) ≡ set.len s + count_by p es
  len-picked [] h apart = omega arith
  len-picked (e ∷ es) h apart =
      let parts = both_parts (below_all nat_cmp e.0 es) (map.is_sorted nat_cmp es) h in
      let rest : set.len (picked es) ≡ set.len s + count_by p es = len-picked es parts.1 apart in
      elim (p e) as (λ b. p e ≡ b → set.len (cond b (set.insert (picked es) e.0) (picked es)) ≡ set.len s + (cond b 1 0 + count_by p es)) [
        | true ↦ λ passes.
            let lacks : set.contains (picked es) e.0 ≡ false = contains-picked es parts.1 e.0 ∙ (λ i. passes_at e.0 (none-later e.0 es parts.0 i) || apart e passes i) in
            let one : set.len (picked es) + 1 ≡ set.len s + (1 + count_by p es) = omega (arith, rest) in
            set.len-insert nat_cmp_total (picked es) e.0 ∙ rw lacks one
        | false ↦ λ fails. omega (arith, rest)
      ] refl
      ∙ ap (λ n. set.len s + n) (sym (sum_by-cons (λ x. cond (p x) 1 0) e es))

module _ {W : Type 0} (p : W → Bool) where
  counted : (es : List (ℕ × W)) → count_by (λ e. p e.1) es ≡ sum_by (λ w. cond (p w) 1 0) (values_of es)
  counted [] = refl
  counted (e ∷ es) = omega (arith, counted es, sum_by-cons (λ (x : ℕ × W). cond (p x.1) 1 0) e es, sum_by-cons (λ w. cond (p w) 1 0) e.1 (values_of es))

  -- a set of the homes whose value passes has as many as there are such values
  pub len-of_kind : (es : List (ℕ × W)) → IsStrictlySortedBy nat_cmp (keys_of es) → (s : set.FinSet nat_cmp) → ((q : ℕ) → set.contains s q ≡ is_of p (lookup (is_at (nat_cmp q)) es)) → set.len s ≡ sum_by (λ w. cond (p w) 1 0) (values_of es)
  len-of_kind es ordered s agree =
      let test = λ (e : ℕ × W). p e.1 in
      let rising = ordered-rise es ordered in
      let found = λ (q : ℕ). contains-picked test set.empty es rising q ∙ ap (λ b. is_of p (map.find nat_cmp q es) || b) (set.contains-empty nat_cmp q) ∙ or-false _ ∙ ap (is_of p) (find-looks q es) in
      ap set.len (set.same_set nat_cmp_total set.nat_cmp-IsAntisymmetric s (picked test set.empty es) (λ q. agree q ∙ sym (found q)))
      ∙ omega (arith, len-picked test set.empty es rising (λ e passes. set.contains-empty nat_cmp e.0), set.len-empty nat_cmp, counted es)

-- ---- what a handle put in front of others adds to their homes

new-or : (kind : Word → Bool) (last first : Option Word) → (is_of (λ w. kind w && not (is_some last)) first || is_of kind last) ≡ is_of kind (option_or last first)
new-or kind None None = refl
new-or kind None (Some w) = or-false (kind w && true) ∙ and-true (kind w)
new-or kind (Some v) None = refl
new-or kind (Some v) (Some w) = ap (λ b. b || kind v) (and-false (kind w))

-- what a handle in front adds to the homes of a kind
module _ (kind : Word → Bool) (h : Stopped) (hs : List Stopped) where
  picked-homes : homes_of kind (h ∷ hs) ≡ picked (is_new kind (touched hs)) (homes_of kind hs) (map.entries h.words)
  picked-homes = set.same_set nat_cmp_total set.nat_cmp-IsAntisymmetric _ _ (λ q.
      contains-homes_of kind (h ∷ hs) q
      ∙ sym (
      contains-picked (is_new kind (touched hs)) (homes_of kind hs) (map.entries h.words) (map.entries_sorted h.words) q
      ∙ (λ i. is_of (λ w. kind w && not (contains-touched hs q i)) (sym (map.get-entries h.words q) i) || contains-homes_of kind hs q i)
      ∙ new-or kind (word hs q) (map.get h.words q)))

  new-apart : (e : ℕ × Word) → is_new kind (touched hs) e ≡ true → set.contains (homes_of kind hs) e.0 ≡ false
  new-apart e new = contains-homes_of kind hs e.0 ∙ sym (some-and kind (word hs e.0)) ∙ ap (λ b. b && is_of kind (word hs e.0)) (sym (contains-touched hs e.0) ∙ not-true _ (and_parts (kind e.1) _ new).1)

  len-homes_of : set.len (homes_of kind (h ∷ hs)) ≡ set.len (homes_of kind hs) + new_homes kind (touched hs) (map.entries h.words)
  len-homes_of =
      ap set.len picked-homes
      ∙ len-picked (is_new kind (touched hs)) (homes_of kind hs) (map.entries h.words) (map.entries_sorted h.words) new-apart

module _ (h : Stopped) (hs : List Stopped) where
  -- each home that the others do not touch counts by the handle's own word
  pub len-copies : set.len (copies (h ∷ hs)) ≡ set.len (copies hs) + new_homes is_copy (touched hs) (map.entries h.words)
  len-copies = (λ i. set.len (sym (copies-homes_of (h ∷ hs)) i)) ∙ len-homes_of is_copy h hs ∙ (λ i. set.len (copies-homes_of hs i) + new_homes is_copy (touched hs) (map.entries h.words))

  pub len-frees : set.len (frees (h ∷ hs)) ≡ set.len (frees hs) + new_homes is_free (touched hs) (map.entries h.words)
  len-frees = (λ i. set.len (sym (frees-homes_of (h ∷ hs)) i)) ∙ len-homes_of is_free h hs ∙ (λ i. set.len (frees-homes_of hs i) + new_homes is_free (touched hs) (map.entries h.words))

-- a home that is new is so by one kind
one-kind : (a m : Bool) → cond (a && m) 1 0 + cond (not a && m) 1 0 ≤ 1
one-kind a m = grind (arith, nat_tests)

pub new-few : (met : set.FinSet nat_cmp) (es : List (ℕ × Word)) → new_homes is_copy met es + new_homes is_free met es ≤ length es
new-few met [] = omega arith
new-few met (e ∷ es) =
    rw (sum_by-cons (λ x. cond (is_new is_copy met x) 1 0) e es, sum_by-cons (λ x. cond (is_new is_free met x) 1 0) e es)
    (omega (arith, new-few met es, one-kind (is_copy e.1) (not (set.contains met e.0))))

pub no-copies : set.len (copies []) ≡ 0
no-copies = ap set.len (set.same_set nat_cmp_total set.nat_cmp-IsAntisymmetric (copies []) set.empty (λ q. contains-copies [] q ∙ sym (set.contains-empty nat_cmp q))) ∙ set.len-empty nat_cmp

pub no-frees : set.len (frees []) ≡ 0
no-frees = ap set.len (set.same_set nat_cmp_total set.nat_cmp-IsAntisymmetric (frees []) set.empty (λ q. contains-frees [] q ∙ sym (set.contains-empty nat_cmp q))) ∙ set.len-empty nat_cmp

-- handles copy and free no more homes than they touch
pub few : (hs : List Stopped) → set.len (copies hs) + set.len (frees hs) + length hs ≤ weight hs
few [] = omega (arith, no-copies, no-frees)
few (h ∷ hs) =
    omega (arith, few hs, new-few (touched hs) (map.entries h.words), map.len-entries h.words, len-copies h hs, len-frees h hs, sum_by-cons (λ x. map.len x.words + 1) h hs)
