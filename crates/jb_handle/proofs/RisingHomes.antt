-- Entries whose homes rise: where a search among them ends, what is found there, and what is put there.
use Rattle.std.proofs.Common.{◌≡◌, ◌≢◌, ℕ, zero, suc, ◌+◌, ◌<◌, ◌≤◌, Bool, true, false, ◌&&◌, cond, nat_eq, T, List, [], ◌∷◌, length, get_or, set, take, Some, None, Less, Result, Ok, Err, sym, ap, subst, refl, ◌∙◌, arith}
use Rattle.std.specs.List.{insert, AllByRecursion}
use Rattle.std.specs.List.Sorted.{IsSearchInRange, IsBinarySearchResult, IsNonDecreasingBy, IsStrictlySortedBy}
use Rattle.std.specs.Map.{keys_of}
use Rattle.std.specs.Ordering.{eq_by_cmp, nat_cmp, ordering_index, is_lt}
use Rattle.std.specs.FinMap as map
use Rattle.std.specs.FinMap.Entries.{below_all, is_sorted-put, find-append}
use Rattle.std.specs.Cmp.{nat_cmp_total}
use Rattle.std.proofs.lemmas.Cmp.{ranked}
use Rattle.std.proofs.lemmas.List.{get_or_default, take_all, take_more, get_or-take, length-take-le}
use Rattle.std.proofs.lemmas.Bool.Decides.{nat_tests}
use Rattle.jb_handle.specs.HomeSearch.{StandsAt, GoesTo, IsPlaced}

pub both_parts : (a b : Bool) → T (a && b) → T a × T b
both_parts true true h = (tt, tt)
both_parts true false h = absurd h
both_parts false b h = absurd h

pub is_lt-less : (x y : ℕ) → T (is_lt (nat_cmp x y)) → x < y
is_lt-less x y h = grind (arith, nat_tests, h)

pub tied-cond : {A : Type 0} (q b : ℕ) (x y : A) → cond (eq_by_cmp nat_cmp q b) x y ≡ cond (nat_eq q b) x y
tied-cond q b x y = grind (arith, nat_tests)

module _ {W : Type 0} where
  -- a home below all is below each
  below-each : (b : ℕ) (es : List (ℕ × W)) → T (below_all nat_cmp b es) → (j : ℕ) (d : ℕ × W) → j < length es → b < (get_or es j d).0
  below-each b [] h j d lt = absurd (omega arith)
  below-each b (e ∷ es) h zero d lt = is_lt-less b e.0 (both_parts _ _ h).0
  below-each b (e ∷ es) h (suc j) d lt = below-each b es (both_parts _ _ h).1 j d (omega arith)

  -- each home is below the later ones
  pub homes-rise : (es : List (ℕ × W)) → T (map.is_sorted nat_cmp es) → (i j : ℕ) (d : ℕ × W) → i < j → j < length es → (get_or es i d).0 < (get_or es j d).0
  homes-rise [] h i j d less lt = absurd (omega arith)
  homes-rise (e ∷ es) h i zero d less lt = absurd (omega arith)
  homes-rise (e ∷ es) h zero (suc j) d less lt = below-each e.0 es (both_parts _ _ h).0 j d (omega arith)
  homes-rise (e ∷ es) h (suc i) (suc j) d less lt = homes-rise es (both_parts _ _ h).1 i j d (omega arith) (omega arith)

  module _ (es : List (ℕ × W)) (rising : T (map.is_sorted nat_cmp es)) (b : ℕ) where
    -- the comparisons with b rise along the list, as a binary search asks
    comparisons-rise : IsNonDecreasingBy (λ e. ordering_index (nat_cmp e.0 b)) es
    comparisons-rise i j d le lt = grind (arith, nat_tests, homes-rise es rising i j d, λ (same : i ≡ j). ap (λ k. (get_or es k d).0) same)

    pub searched : (r : Result ℕ ℕ) → IsSearchInRange r (length es) → IsBinarySearchResult (λ e. nat_cmp e.0 b) es r → IsPlaced es b r
    searched (Ok at) inside equal = record { inside = inside; home = λ d. ranked _ b _ (sym (equal d)) }
    searched (Err at) inside parted = record {
      inside = inside;
      before = λ j d lt. ranked _ b _ (sym ((parted comparisons-rise).0 j d (omega arith) lt));
      after = λ j d le lt. ranked _ b _ (sym ((parted comparisons-rise).1 j d le lt));
    }

  rising-tail : (e : ℕ × W) (es : List (ℕ × W)) → T (map.is_sorted nat_cmp (e ∷ es)) → T (map.is_sorted nat_cmp es)
  rising-tail e es h = (both_parts _ _ h).1

  -- the tail of what is, or would be inserted, one place later
  stands-tail : (e : ℕ × W) (es : List (ℕ × W)) (b i : ℕ) → StandsAt (e ∷ es) b (suc i) → StandsAt es b i
  stands-tail e es b i h = record { inside = omega (arith, h.inside); home = h.home }

  goes-tail : (e : ℕ × W) (es : List (ℕ × W)) (b i : ℕ) → GoesTo (e ∷ es) b (suc i) → GoesTo es b i
  goes-tail e es b i h = record { inside = omega (arith, h.inside); before = λ j d lt. h.before (suc j) d (omega arith); after = λ j d le lt. h.after (suc j) d (omega arith) (omega arith) }

  -- where the home is, its word is found and replaced
  pub find-stands : (es : List (ℕ × W)) → T (map.is_sorted nat_cmp es) → (b i : ℕ) (d : ℕ × W) → StandsAt es b i → map.find nat_cmp b es ≡ Some (get_or es i d).1
  find-stands [] s b i d h = absurd (omega (arith, h.inside))
  find-stands (e ∷ es) s b zero d h = grind (arith, nat_tests, h.home d)
  find-stands (e ∷ es) s b (suc i) d h =
      grind (arith, nat_tests, homes-rise (e ∷ es) s 0 (suc i) d (omega arith) h.inside, h.home d, find-stands es (rising-tail e es s) b i d (stands-tail e es b i h))

  pub put-stands : (es : List (ℕ × W)) → T (map.is_sorted nat_cmp es) → (b i : ℕ) (w : W) → StandsAt es b i → map.put nat_cmp b w es ≡ set es i (b, w)
  put-stands [] s b i w h = absurd (omega (arith, h.inside))
  put-stands (e ∷ es) s b zero w h = grind (arith, nat_tests, h.home e)
  put-stands (e ∷ es) s b (suc i) w h =
      grind (arith, nat_tests, homes-rise (e ∷ es) s 0 (suc i) e (omega arith) h.inside, h.home e, put-stands es (rising-tail e es s) b i w (stands-tail e es b i h))

  -- nothing is found of a home that no entry has
  lacks : (es : List (ℕ × W)) (b : ℕ) → ((j : ℕ) (d : ℕ × W) → j < length es → (get_or es j d).0 ≢ b) → map.find nat_cmp b es ≡ None
  lacks [] b apart = refl
  lacks (e ∷ es) b apart = let other : e.0 ≢ b = apart 0 e (omega arith) in grind (arith, nat_tests, lacks es b (λ j d within. apart (suc j) d (omega arith)))

  -- where it would go, nothing is found, and its word is put there
  pub find-goes : (es : List (ℕ × W)) (b i : ℕ) → GoesTo es b i → map.find nat_cmp b es ≡ None
  find-goes es b i h = lacks es b (λ j d within same. grind (arith, h.before j d, h.after j d, same))

  pub put-goes : (es : List (ℕ × W)) (b i : ℕ) (w : W) → GoesTo es b i → map.put nat_cmp b w es ≡ insert es i (b, w)
  put-goes [] b zero w h = refl
  put-goes [] b (suc i) w h = absurd (omega (arith, h.inside))
  put-goes (e ∷ es) b zero w h = grind (arith, nat_tests, h.after 0 e (omega arith) (omega arith))
  put-goes (e ∷ es) b (suc i) w h = grind (arith, nat_tests, h.before 0 e (omega arith), put-goes es b i w (goes-tail e es b i h))

  -- the map of entries among which a word was put
  pub view-put : (es fs : List (ℕ × W)) (m : map.FinMap nat_cmp W) → map.from_sorted es ≡ m → T (map.is_sorted nat_cmp es) → (b : ℕ) (w : W) → map.put nat_cmp b w es ≡ fs
      → T (map.is_sorted nat_cmp fs) × (map.from_sorted {R = nat_cmp} fs ≡ map.insert m b w)
  view-put es fs m view rising b w is =
      let still : T (map.is_sorted nat_cmp fs) = subst (λ gs. T (map.is_sorted nat_cmp gs)) is (is_sorted-put nat_cmp nat_cmp_total b w es rising) in
      let put_there = map.entries-insert nat_cmp_total m b w ∙ ap (map.put nat_cmp b w) (ap map.entries (sym view) ∙ map.entries-from_sorted nat_cmp es rising) ∙ is in
      (still, map.same_entries_map _ _ (map.entries-from_sorted nat_cmp fs still ∙ sym put_there))

  -- what is found in a list is what the map has that it is viewed as
  pub view-get : (es : List (ℕ × W)) (m : map.FinMap nat_cmp W) → map.from_sorted es ≡ m → T (map.is_sorted nat_cmp es) → (b : ℕ) → map.get m b ≡ map.find nat_cmp b es
  view-get es m view rising b = ap (λ n. map.get n b) (sym view) ∙ map.get-from_sorted nat_cmp es b rising

  pub view-empty : ◌≡◌ {A = map.FinMap nat_cmp W} (map.from_sorted []) map.empty
  view-empty = map.empty_of_len _ (map.len-entries _ ∙ ap length (map.entries-from_sorted nat_cmp [] tt))

  below-all : (b : ℕ) (es : List (ℕ × W)) → AllByRecursion (λ x. nat_cmp b x ≡ Less) (keys_of es) → T (below_all nat_cmp b es)
  below-all b [] h = tt
  below-all b (e ∷ es) h = rw h.0 (below-all b es h.1)

  -- a tree keeps its entries in this order
  pub ordered-rise : (es : List (ℕ × W)) → IsStrictlySortedBy nat_cmp (keys_of es) → T (map.is_sorted nat_cmp es)
  unfolding IsStrictlySortedBy
  ordered-rise [] h = tt
  ordered-rise (e ∷ es) h = grind (arith, nat_tests, below-all e.0 es h.0, ordered-rise es h.1)

  -- no home is among the entries before it
  pub find-before : (es : List (ℕ × W)) → T (map.is_sorted nat_cmp es) → (i : ℕ) (d : ℕ × W) → i < length es → map.find nat_cmp (get_or es i d).0 (take i es) ≡ None
  find-before es h i d lt =
      lacks (take i es) (get_or es i d).0 (λ j e within same. let inside : j < i = omega (arith, length-take-le i es (omega arith), within) in
      omega (arith, homes-rise es h j i d inside lt, rw (get_or-take, get_or_default es j e d (omega arith)) at same))

  -- what is found among one entry more
  pub find-take : (es : List (ℕ × W)) → T (map.is_sorted nat_cmp es) → (i : ℕ) (d : ℕ × W) → i < length es → (q : ℕ) → map.find nat_cmp q (take (i + 1) es) ≡ cond (nat_eq q (get_or es i d).0) (Some (get_or es i d).1) (map.find nat_cmp q (take i es))
  find-take es h i d lt q =
      rw (take_more es i d lt, find-append nat_cmp nat_cmp_total (take i es) (get_or es i d).0 (get_or es i d).1 q (find-before es h i d lt)) (tied-cond q (get_or es i d).0 _ _)

  -- the entry e is the next one: what is found with it, and that its home is not among those before it
  module _ (es : List (ℕ × W)) (rising : T (map.is_sorted nat_cmp es)) (i : ℕ) (e : ℕ × W) (here : e ≡ get_or es i e) (inside : i < length es) where
    pub find-with : (q : ℕ) → map.find nat_cmp q (take (i + 1) es) ≡ cond (nat_eq q e.0) (Some e.1) (map.find nat_cmp q (take i es))
    find-with q = find-take es rising i e inside q ∙ ap (λ (x : ℕ × W). cond (nat_eq q x.0) (Some x.1) (map.find nat_cmp q (take i es))) (sym here)

    pub none-before : map.find nat_cmp e.0 (take i es) ≡ None
    none-before = ap (λ (x : ℕ × W). map.find nat_cmp x.0 (take i es)) here ∙ find-before es rising i e inside

  -- what is found among all entries of a map
  pub find-whole : (m : map.FinMap nat_cmp W) (es : List (ℕ × W)) → es ≡ map.entries m → (i q : ℕ) → length es ≤ i → map.find nat_cmp q (take i es) ≡ map.get m q
  find-whole m es same i q whole = ap (map.find nat_cmp q) (take_all i es whole ∙ same) ∙ sym (map.get-entries m q)
