-- What becomes of the line where groups are settled, taken and lost.
use Rattle.std.proofs.Common.{◌≡◌, ℕ, zero, suc, ◌+◌, ◌-◌, ◌<◌, ◌≤◌, List, [], ◌∷◌, ◌++◌, map, length, take, drop, get_or, slice_range, slice_get, Some, None, le_refl, sym, refl, ap, subst, ◌∙◌, arith}
use Rattle.std.proofs.lemmas.List.{nil_from_length, take-append-drop, drop_all, drop-drop, length-drop, length-append, length-take-le, take-take, take-append-le, drop-append-le}
use Rattle.std.proofs.lemmas.Option.{slice_get_past}
use Rattle.std.specs.Global.{Vec}
use Rattle.std.proofs.Math.Seq.{drop-cons, take-add, drop-append_seam, drop-length}
use Rattle.jb_handle.specs.declared.stopped.Stopped.{Stopped}
use Rattle.jb_cost.specs.Cut.{RisesTo, IsCut}
use Rattle.jb_cost.proofs.Cuts.{rises-le}
use Rattle.jb_cost.specs.Pieces.{joined, pieces_from, pieces}
use Rattle.jb_core.specs.Line.{MachineLine, count, IsSettled, IsTaken, IsPushed}
use Rattle.jb_core.specs.Stops.{line_of_stops, IsInLine}
use Rattle.jb_core.specs.declared.stops.Stops.TheInside.{Inside}
use Rattle.jb_core.specs.SplitEnds.{IsParted}
use Rattle.jb_cost.proofs.ListPieces.{rises-append, pieces-append, take-pieces, drop-pieces, length-pieces, joined-pieces, pieces-take, pieces-shift, rises-shift}

-- the numbers after m, once those up to end are taken away
pub drop-between : {A : Type 0} (m end k : ℕ) (xs : List A) → m ≤ end → k ≡ end - m → drop end xs ≡ drop k (drop m xs)
drop-between m end k xs low is = ap (λ n. drop n xs) (let same : end ≡ m + k = omega arith in same) ∙ sym (drop-drop k m xs)

-- after the first n taken groups were settled, which end at `end`
abbrev pub settled_to : Inside → ℕ → ℕ → Inside
settled_to s n end = record { handles = s.handles; granted = s.granted; ends = s.ends; taken_end = s.taken_end; settled = s.settled + n; settled_end = end }

-- the ends of the taken groups
abbrev pub taken_ends : Inside → List ℕ
taken_ends s = drop s.settled s.ends.items

-- as many groups are taken as there are ends of taken groups
pub groups-there : (s : Inside) (l : MachineLine) (n : ℕ) → line_of_stops s ≡ l → n ≤ length l.taken → n ≤ length (taken_ends s)
groups-there s l n is there = omega (arith, there, ap (λ (k : MachineLine). length k.taken) is, length-pieces s.settled_end (taken_ends s) s.handles.items)

-- the ends of the taken groups, parted where the search for an end parts them
pub parts-of : (s : Inside) → IsInLine s → (n end : ℕ) (es : List ℕ) → es ≡ s.ends.items
    → ((last : ℕ) → RisesTo last s.settled_end (drop s.settled es) → IsParted last s.settled_end n (drop s.settled es) end)
    → IsParted s.taken_end s.settled_end n (taken_ends s) end
parts-of s kept n end es is found =
    subst (λ xs. IsParted s.taken_end s.settled_end n (drop s.settled xs) end) is (found s.taken_end (subst (λ xs. RisesTo s.taken_end s.settled_end (drop s.settled xs)) (sym is) kept.taken))

module _ (s : Inside) (kept : IsInLine s) (n end : ℕ) (there : n ≤ length (taken_ends s)) (parts : IsParted s.taken_end s.settled_end n (taken_ends s) end) where
  pub settled-kept : IsInLine (settled_to s n end)
  settled-kept = record {
    counted = let left = length-drop s.settled s.ends.items in let counted = kept.counted in omega arith;
    settled = subst (RisesTo end 0) (sym (take-add s.settled n s.ends.items)) (rises-append s.settled_end end 0 (take s.settled s.ends.items) (take n (taken_ends s)) kept.settled parts.first);
    taken = subst (RisesTo s.taken_end end) (drop-drop n s.settled s.ends.items) parts.rest;
    inside = kept.inside;
    paired = kept.paired;
  }

  -- as many handles as there are between the two ends
  taken_count : count (take n (line_of_stops s).taken) ≡ end - s.settled_end
  taken_count =
      let whole = ap length (joined-pieces end s.settled_end (take n (taken_ends s)) s.handles.items parts.first) in
      let parted = length-append (joined (pieces_from s.settled_end (take n (taken_ends s)) s.handles.items)) (drop end s.handles.items) in
      let one = length-drop end s.handles.items in
      let two = length-drop s.settled_end s.handles.items in
      let high = parts.high in
      let low = parts.low in
      let inside = kept.inside in
      ap count (take-pieces n s.settled_end (taken_ends s) s.handles.items) ∙ (let same : count (pieces_from s.settled_end (take n (taken_ends s)) s.handles.items) ≡ end - s.settled_end = omega arith in same)

  pub settled-line : IsSettled n (line_of_stops s) (line_of_stops (settled_to s n end))
  settled-line = record {
    settled =
        ap (λ es. pieces_from 0 es s.handles.items) (take-add s.settled n s.ends.items)
        ∙ pieces-append s.settled_end 0 (take s.settled s.ends.items) (take n (taken_ends s)) s.handles.items kept.settled
        ∙ ap (λ ps. (line_of_stops s).settled ++ ps) (sym (take-pieces n s.settled_end (taken_ends s) s.handles.items));
    taken = ap (λ es. pieces_from end es s.handles.items) (sym (drop-drop n s.settled s.ends.items)) ∙ sym (drop-pieces n end s.settled_end (taken_ends s) s.handles.items parts.first);
    queue = refl;
    credits = drop-between s.settled_end end (count (take n (line_of_stops s).taken)) s.granted.items parts.low taken_count;
  }

  pub settled-credits : slice_range s.granted.items s.settled_end end ≡ take (count (take n (line_of_stops s).taken)) (line_of_stops s).credits
  settled-credits = ap (λ k. take k (drop s.settled_end s.granted.items)) (sym taken_count)

settled-inside : (s : Inside) → IsInLine s → s.settled_end ≤ length s.handles.items
settled-inside s kept = let before : s.settled_end ≤ s.taken_end = rises-le s.taken_end s.settled_end (taken_ends s) kept.taken in let inside = kept.inside in omega arith

-- the same settled groups, with other handles, credits and ends
abbrev pub changed : Inside → Vec Stopped → Vec ℕ → Vec ℕ → ℕ → Inside
changed s handles granted ends taken_end = record { handles = handles; granted = granted; ends = ends; taken_end = taken_end; settled = s.settled; settled_end = s.settled_end }

-- ---- the handles that are not settled are dropped

module _ (s : Inside) (kept : IsInLine s) (hs : Vec Stopped) (gs es : Vec ℕ) (handles : hs.items ≡ take s.settled_end s.handles.items) (ends : es.items ≡ take s.settled s.ends.items) where
  same-ends : take s.settled es.items ≡ take s.settled s.ends.items
  same-ends = rw ends (take-take s.settled s.settled s.ends.items (le_refl s.settled))

  pub cut-settled : (line_of_stops (changed s hs gs es s.settled_end)).settled ≡ (line_of_stops s).settled
  cut-settled = rw (same-ends, handles) (pieces-take s.settled_end 0 (take s.settled s.ends.items) s.handles.items kept.settled)

  pub cut-kept : gs.items ≡ take s.settled_end s.granted.items → IsInLine (changed s hs gs es s.settled_end)
  cut-kept granted =
      let held = ap length handles in
      let inside = settled-inside s kept in
      let first = length-take-le s.settled_end s.handles.items inside in
      let credits = length-take-le s.settled_end s.granted.items (omega (arith, kept.paired)) in
      let counted = length-take-le s.settled s.ends.items kept.counted in
      record {
        counted = omega (arith, counted, ap length ends);
        settled = rw same-ends kept.settled;
        taken = rw (ends, drop_all s.settled (take s.settled s.ends.items) (omega (arith, counted))) refl;
        inside = omega (arith, held, first);
        paired = ap length granted ∙ credits ∙ sym (held ∙ first);
      }

-- ---- a handle comes to the queue's end

longer-pieces : {A : Type 0} (e a : ℕ) (es : List ℕ) (xs ys : List A) → RisesTo e a es → e ≤ length xs → pieces_from a es (xs ++ ys) ≡ pieces_from a es xs
longer-pieces e a es xs ys rises inside = sym (pieces-take e a es (xs ++ ys) rises) ∙ ap (pieces_from a es) (take-append-le e xs ys inside) ∙ pieces-take e a es xs rises

pub push-line : (s : Inside) → IsInLine s → (hs : Vec Stopped) (gs : Vec ℕ) (handle : Stopped) (credits : ℕ) → hs.items ≡ s.handles.items ++ handle ∷ [] → gs.items ≡ s.granted.items ++ credits ∷ []
    → IsPushed handle credits (line_of_stops s) (line_of_stops (changed s hs gs s.ends s.taken_end))
push-line s kept hs gs handle credits handles granted =
    let inside = settled-inside s kept in
    record {
      settled = rw handles (longer-pieces s.settled_end 0 (take s.settled s.ends.items) s.handles.items (handle ∷ []) kept.settled inside);
      taken = rw handles (longer-pieces s.taken_end s.settled_end (taken_ends s) s.handles.items (handle ∷ []) kept.taken kept.inside);
      queue = rw handles (drop-append-le s.taken_end s.handles.items (handle ∷ []) kept.inside);
      credits = rw granted (drop-append-le s.settled_end s.granted.items (credits ∷ []) (omega (arith, kept.paired)));
    }

-- ---- the queue is taken

pub rises-below : (n a : ℕ) (bs : List ℕ) → RisesTo n a bs → (k d : ℕ) → k < length bs → get_or bs k d ≤ n
rises-below n a [] rises k d there = omega arith
rises-below n a (b ∷ bs) rises zero d there = rises-le n b bs rises.1
rises-below n a (b ∷ bs) rises (suc k) d there = rises-below n b bs rises.1 k d (omega arith)

-- the ends of a cut, after its opening 0
pub cut-rises : (n : ℕ) (bounds : List ℕ) → IsCut n bounds → RisesTo n 0 (drop 1 bounds)
cut-rises n [] cut = absurd cut
cut-rises n (a ∷ bs) cut = subst (λ x. RisesTo n x bs) cut.0 cut.1

cut-pieces : {A : Type 0} (n : ℕ) (bounds : List ℕ) (xs : List A) → IsCut n bounds → pieces_from 0 (drop 1 bounds) xs ≡ pieces bounds xs
cut-pieces n [] xs cut = absurd cut
cut-pieces n (a ∷ bs) xs cut = ap (λ x. pieces_from x bs xs) (sym cut.0)

module _ (s : Inside) (kept : IsInLine s) (bounds : List ℕ) (cut : IsCut (length (line_of_stops s).queue) bounds) (none : (line_of_stops s).taken ≡ [])
    (es : Vec ℕ) (end : ℕ) (ends : es.items ≡ s.ends.items ++ map (λ end. s.taken_end + end) (drop 1 bounds)) (last : end ≡ length s.handles.items) where
  no-ends : length (taken_ends s) ≡ 0
  no-ends = sym (length-pieces s.settled_end (taken_ends s) s.handles.items) ∙ ap length none

  all-settled : s.settled ≡ length s.ends.items
  all-settled = let left = length-drop s.settled s.ends.items in let counted = kept.counted in let empty = no-ends in omega arith

  new-ends : drop s.settled es.items ≡ map (λ end. s.taken_end + end) (drop 1 bounds)
  new-ends = rw (ends, all-settled) (drop-append_seam s.ends.items (map (λ end. s.taken_end + end) (drop 1 bounds)))

  old-ends : take s.settled es.items ≡ take s.settled s.ends.items
  old-ends = rw ends (take-append-le s.settled s.ends.items (map (λ end. s.taken_end + end) (drop 1 bounds)) kept.counted)

  behind : s.taken_end + length (line_of_stops s).queue ≡ end
  behind = let left = length-drop s.taken_end s.handles.items in let inside = kept.inside in omega arith

  from-end : s.taken_end + 0 ≡ s.settled_end
  from-end = let same : s.settled_end ≡ s.taken_end = subst (RisesTo s.taken_end s.settled_end) (nil_from_length (taken_ends s) no-ends) kept.taken in omega arith

  pub take-kept : IsInLine (changed s s.handles s.granted es end)
  take-kept = record {
    counted = let counted = kept.counted in let longer = ap length ends ∙ length-append s.ends.items (map (λ end. s.taken_end + end) (drop 1 bounds)) in omega arith;
    settled = rw old-ends kept.settled;
    taken = rw (new-ends, ← behind, ← from-end) (rises-shift s.taken_end (length (line_of_stops s).queue) 0 (drop 1 bounds) (cut-rises (length (line_of_stops s).queue) bounds cut));
    inside = omega (arith, last);
    paired = kept.paired;
  }

  pub take-line : IsTaken bounds (line_of_stops s) (line_of_stops (changed s s.handles s.granted es end))
  take-line = record {
    settled = rw old-ends refl;
    taken = rw (new-ends, ← from-end) (pieces-shift s.taken_end 0 (drop 1 bounds) s.handles.items ∙ cut-pieces (length (line_of_stops s).queue) bounds (drop s.taken_end s.handles.items) cut);
    queue = rw last (drop-length s.handles.items);
    credits = refl;
  }

-- ---- a group is read

get-first : {A : Type 0} (xs : List A) (i : ℕ) (x : A) (rest : List A) → drop i xs ≡ x ∷ rest → slice_get xs i ≡ Some x
get-first [] zero x rest is = cc
get-first [] (suc i) x rest is = cc
get-first (y ∷ ys) zero x rest is = cc
get-first (y ∷ ys) (suc i) x rest is = get-first ys i x rest is

module _ (s : Inside) (kept : IsInLine s) where
  all-rise : RisesTo s.taken_end 0 s.ends.items
  all-rise = subst (RisesTo s.taken_end 0) (take-append-drop s.settled s.ends.items) (rises-append s.settled_end s.taken_end 0 (take s.settled s.ends.items) (taken_ends s) kept.settled kept.taken)

  all-pieces : pieces_from 0 s.ends.items s.handles.items ≡ (line_of_stops s).settled ++ (line_of_stops s).taken
  all-pieces = ap (λ es. pieces_from 0 es s.handles.items) (sym (take-append-drop s.settled s.ends.items)) ∙ pieces-append s.settled_end 0 (take s.settled s.ends.items) (taken_ends s) s.handles.items kept.settled

  pub no-group : (i : ℕ) → length s.ends.items ≤ i → slice_get ((line_of_stops s).settled ++ (line_of_stops s).taken) i ≡ None
  no-group i over = let same = length-pieces 0 s.ends.items s.handles.items in rw (sym all-pieces) (slice_get_past (pieces_from 0 s.ends.items s.handles.items) i (omega arith))

  module _ (i start : ℕ) (there : i < length s.ends.items) (found : (last : ℕ) → RisesTo last 0 s.ends.items → IsParted last 0 i s.ends.items start) where
    group-ends : drop i s.ends.items ≡ get_or s.ends.items i 0 ∷ drop (suc i) s.ends.items
    group-ends = drop-cons s.ends.items i 0 there

    group-rises : RisesTo s.taken_end start (get_or s.ends.items i 0 ∷ drop (suc i) s.ends.items)
    group-rises = subst (RisesTo s.taken_end start) group-ends (found s.taken_end all-rise).rest

    pub group-inside : (start ≤ get_or s.ends.items i 0) × (get_or s.ends.items i 0 ≤ length s.handles.items)
    group-inside =
        let below = group-rises.0 in
        let above = rises-le s.taken_end (get_or s.ends.items i 0) (drop (suc i) s.ends.items) group-rises.1 in
        let inside = kept.inside in
        (omega arith, omega arith)

    pub group-is : slice_get ((line_of_stops s).settled ++ (line_of_stops s).taken) i ≡ Some (slice_range s.handles.items start (get_or s.ends.items i 0))
    group-is = rw (sym all-pieces) (get-first (pieces_from 0 s.ends.items s.handles.items) i _ _
        (drop-pieces i start 0 s.ends.items s.handles.items (found s.taken_end all-rise).first ∙ ap (λ es. pieces_from start es s.handles.items) group-ends))
