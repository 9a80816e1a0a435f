-- The bounds at which the handles of a journal are cut into groups: with further groups, and of a trail from which entries are taken.
use Rattle.std.proofs.Common.{◌≡◌, ℕ, zero, suc, ◌+◌, ◌<◌, ◌≤◌, Bool, false, List, [], ◌∷◌, ◌++◌, length, map, take, drop, slice_get, slice_index, Some, sym, refl, ap, subst, ◌∙◌, arith, append_assoc, append-nil, take-append-drop, drop_of_length-le}
use Rattle.std.proofs.lemmas.List.{map-append, length-map, take-map}
use Rattle.jb_board.proofs.EntryPlaces.{get_before}
use Rattle.jb_cost.specs.Cut.{IsCut, RisesTo}
use Rattle.jb_cost.proofs.Cuts.{rises-le}
use Rattle.jb_deck.specs.Done.{Follow, past_after, start_of}
use Rattle.jb_deck.specs.GroupsOfBatch.{entries_for, entries_from, groups_in}
use Rattle.jb_deck.specs.TakeTrail.{StopsAt}
use Rattle.jb_deck.specs.declared.done.Entry.{Entry}
use Rattle.jb_book.specs.Since.{AreGroups}

-- ---- a cut, and further handles that are cut

-- where the groups of further handles end, after so many others
abbrev pub further : ℕ → List ℕ → List ℕ
further n [] = []
further n (a ∷ bs) = map (λ (b : ℕ). n + b) bs

rises-shift : (n m a : ℕ) (bs : List ℕ) → RisesTo m a bs → RisesTo (n + m) (n + a) (map (λ (b : ℕ). n + b) bs)
rises-shift n m a [] is = ap (λ k. n + k) is
rises-shift n m a (b ∷ bs) is = (omega arith, rises-shift n m b bs is.1)

rises-more : (n m a : ℕ) (bs cs : List ℕ) → RisesTo n a bs → RisesTo m 0 cs → RisesTo (n + m) a (bs ++ map (λ (b : ℕ). n + b) cs)
rises-more n m a [] cs one two = subst (λ k. RisesTo (n + m) k (map (λ (b : ℕ). n + b) cs)) (let h : n + 0 ≡ a = omega (arith, one) in h) (rises-shift n m 0 cs two)
rises-more n m a (b ∷ bs) cs one two = (one.0, rises-more n m b bs cs one.1 two)

-- with those of the others before it, it is a cut of all
pub cut-more : (n m : ℕ) (bounds groups : List ℕ) → IsCut n bounds → IsCut m groups → IsCut (n + m) (bounds ++ further n groups)
cut-more n m [] groups one two = absurd one
cut-more n m (a ∷ bs) [] one two = absurd two
cut-more n m (a ∷ bs) (z ∷ cs) one two = (one.0, rises-more n m a bs cs one.1 (subst (λ k. RisesTo m k cs) two.0 two.1))

last-get : (n a : ℕ) (bs : List ℕ) → RisesTo n a bs → slice_get (a ∷ bs) (length bs) ≡ Some n
last-get n a [] rises = ap Some rises
last-get n a (b ∷ bs) rises = last-get n b bs rises.1

get-after : {A : Type 0} (xs ys : List A) (k i : ℕ) → i ≡ length xs + k → slice_get (xs ++ ys) i ≡ slice_get ys k
get-after [] ys k i is = ap (slice_get ys) (omega (arith, is))
get-after (x ∷ xs) ys k zero is = absurd (omega (arith, is))
get-after (x ∷ xs) ys k (suc i) is = get-after xs ys k i (omega (arith, is))

shift-get : (n : ℕ) (bs : List ℕ) (k : ℕ) → k < length bs → slice_get (map (λ (b : ℕ). n + b) bs) k ≡ Some (n + slice_index bs k)
shift-get n [] k lt = absurd (omega (arith, lt))
shift-get n (b ∷ bs) zero lt = refl
shift-get n (b ∷ bs) (suc k) lt = shift-get n bs k (omega (arith, lt))

-- the first of the further groups end where they do in their own cut, after the others
pub get-more : (n m : ℕ) (bounds groups : List ℕ) (k : ℕ) → IsCut n bounds → IsCut m groups → k ≤ groups_in groups → slice_get (bounds ++ further n groups) (groups_in bounds + k) ≡ Some (n + slice_index groups k)
get-more n m [] groups k one two within = absurd one
get-more n m (a ∷ bs) [] k one two within = absurd two
get-more n m (a ∷ bs) (z ∷ cs) zero one two within =
    let start = two.0 in
    subst (λ i. slice_get ((a ∷ bs) ++ further n (z ∷ cs)) i ≡ Some (n + z)) (let h : length bs ≡ length bs + 0 = omega arith in h)
    (get_before (a ∷ bs) (further n (z ∷ cs)) (length bs) n (last-get n a bs one.1) ∙ ap Some (let h : n ≡ n + z = omega (arith, start) in h))
get-more n m (a ∷ bs) (z ∷ cs) (suc k) one two within = get-after (a ∷ bs) (further n (z ∷ cs)) k (length bs + suc k) (omega arith) ∙ shift-get n cs k (omega (arith, within))

rise-place : (n a : ℕ) (bs : List ℕ) (g : ℕ) → RisesTo n a bs → slice_get (a ∷ bs) g ≡ Some n → g ≡ length bs
rise-place n a [] zero rises at = refl
rise-place n a [] (suc g) rises at = absurd (cc)
rise-place n a (b ∷ bs) zero rises at =
    let same : a ≡ n = cc in
    let high = rises-le n b bs rises.1 in
    let low = rises.0 in
    absurd (omega (arith, same, high, low))
rise-place n a (b ∷ bs) (suc g) rises at = ap suc (rise-place n b bs g rises.1 at)

-- the groups that have all handles are all
pub place-last : (n : ℕ) (bounds : List ℕ) (g : ℕ) → IsCut n bounds → slice_get bounds g ≡ Some n → g ≡ groups_in bounds
place-last n [] g cut at = absurd cut
place-last n (a ∷ bs) g cut at = rise-place n a bs g cut.1 at

-- ---- a trail that gets the entries of first groups of a batch

abbrev pasts : List Entry → List ℕ
pasts es = map (λ (e : Entry). e.past) es

pasts-from : (c : ℕ → ℕ → ℕ) (ticket number a : ℕ) (bs : List ℕ) → pasts (entries_from c ticket number a bs) ≡ map (λ (b : ℕ). ticket + b) bs
pasts-from c ticket number a [] = refl
pasts-from c ticket number a (b ∷ bs) = ap (λ l. (ticket + b) ∷ l) (pasts-from c ticket (number + 1) b bs)

pasts-for : (c : ℕ → ℕ → ℕ) (ticket number : ℕ) (bounds : List ℕ) → pasts (entries_for c ticket number bounds) ≡ further ticket bounds
pasts-for c ticket number [] = refl
pasts-for c ticket number (a ∷ bs) = pasts-from c ticket number a bs

start-for : (c : ℕ → ℕ → ℕ) (n m number k : ℕ) (groups : List ℕ) → IsCut m groups → n ≡ 0 → start_of (take k (entries_for c n number groups)) ≡ 0
start-for c n m number zero groups cut none = refl
start-for c n m number (suc k) [] cut none = refl
start-for c n m number (suc k) (z ∷ []) cut none = refl
start-for c n m number (suc k) (z ∷ b ∷ bs) cut none = let start = cut.0 in omega (arith, start, none)

start-same : (es fs : List Entry) → ((es ≡ []) → start_of fs ≡ 0) → start_of (es ++ fs) ≡ start_of es
start-same [] fs none = none refl
start-same (e ∷ es) fs none = refl

further-length : (n : ℕ) (groups : List ℕ) → length (further n groups) ≡ groups_in groups
further-length n [] = refl
further-length n (z ∷ cs) = length-map cs (λ (b : ℕ). n + b)

-- what was settled is followed by these, and the others of the batch come last
pub groups-more : (was is : Bool) (trail es : List Entry) (bounds groups : List ℕ) (c : ℕ → ℕ → ℕ) (n m number k : ℕ)
    → was ≡ false → IsCut m groups → n ≡ past_after 0 trail → es ≡ take k (entries_for c n number groups) → (is ≡ false → k ≡ groups_in groups)
    → AreGroups was trail bounds → AreGroups is (trail ++ es) (bounds ++ further n groups)
groups-more was is trail es bounds groups c n m number k up cut at told whole old =
    let F = further n groups in
    let start : start_of (trail ++ es) ≡ start_of trail = start-same trail es (λ none. ap start_of told ∙ start-for c n m number k groups cut (at ∙ ap (past_after 0) none)) in
    let ends : pasts es ≡ take k F = ap pasts told ∙ sym (take-map (λ (e : Entry). e.past) k (entries_for c n number groups)) ∙ ap (take k) (pasts-for c n number groups) in
    let all : pasts (trail ++ es) ≡ pasts trail ++ take k F = map-append (λ (e : Entry). e.past) trail es ∙ ap (λ l. pasts trail ++ l) ends in
    let front = old.early ++ start_of trail ∷ pasts trail in
    let before : bounds ≡ front = old.is ∙ ap (λ l. front ++ l) (old.all up) ∙ append-nil front in
    record {
      early = old.early;
      late = drop k F;
      is = ap (λ l. l ++ F) before ∙ ap (λ l. front ++ l) (sym (take-append-drop k F)) ∙ sym (append_assoc front (take k F) (drop k F))
          ∙ ap (λ l. l ++ drop k F) (append_assoc old.early (start_of trail ∷ pasts trail) (take k F))
          ∙ ap (λ (x : ℕ × List ℕ). (old.early ++ x.0 ∷ x.1) ++ drop k F) (λ i. (sym start i, sym all i));
      all = λ on. drop_of_length-le F (let long = further-length n groups in let every = whole on in omega (arith, long, every));
    }

-- ---- a trail from which entries are taken

start-follow : (first least past : ℕ) (es : List Entry) (f : Entry) (fs : List Entry) → Follow first least past (es ++ f ∷ fs) → start_of (es ++ f ∷ fs) ≡ first
start-follow first least past [] f fs is = is.0
start-follow first least past (e ∷ es) f fs is = is.0

front-moves : (first least past : ℕ) (early : List ℕ) (taken : List Entry) (f : Entry) (fs : List Entry) → Follow first least past (taken ++ f ∷ fs)
    → (more : List ℕ) × (early ++ start_of (taken ++ f ∷ fs) ∷ pasts (taken ++ f ∷ fs) ≡ more ++ f.first ∷ pasts (f ∷ fs))
front-moves first least past early [] f fs is = (early, refl)
front-moves first least past early (e ∷ taken) f fs is =
    let rest = front-moves e.past (e.number + 1) past (early ++ e.first ∷ []) taken f fs is.3 in
    let start = start-follow e.past (e.number + 1) past taken f fs is.3 in (
      rest.0,
      ap (λ n. early ++ e.first ∷ n ∷ pasts (taken ++ f ∷ fs)) (sym start) ∙ sym (append_assoc early (e.first ∷ []) (start_of (taken ++ f ∷ fs) ∷ pasts (taken ++ f ∷ fs))) ∙ rest.1,
    )

-- the groups of those that were taken come before the first of the others
pub groups-left : (aborted : Bool) (oldest past end : ℕ) (taken rest : List Entry) (bounds : List ℕ) → StopsAt oldest past taken rest → Follow (start_of (taken ++ rest)) 0 end (taken ++ rest)
    → AreGroups aborted (taken ++ rest) bounds → AreGroups aborted rest bounds
groups-left aborted oldest past end taken [] bounds stops tiles old = subst (λ t. AreGroups aborted (t ++ []) bounds) stops old
groups-left aborted oldest past end taken (f ∷ fs) bounds stops tiles old =
    let moved = front-moves (start_of (taken ++ f ∷ fs)) 0 end old.early taken f fs tiles in
    record { early = moved.0; late = old.late; is = old.is ∙ ap (λ l. l ++ old.late) moved.1; all = old.all }
