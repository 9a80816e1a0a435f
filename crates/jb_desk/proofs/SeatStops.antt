-- The stops of all seats, put together, and the history.
use Rattle.std.proofs.Common.{append_assoc, append-nil, map, refl, ◌≡◌, ◌+◌, ℕ, List, [], ◌∷◌, ◌++◌, length, All, sym, ap, subst, ◌∙◌}
use Rattle.std.specs.List.{sum_by}
use Rattle.std.proofs.lemmas.List.Sums.{sum_by-append, sum_by-cons}
use Rattle.jb_cost.specs.Pieces.{joined}
use Rattle.jb_handle.specs.Word.{WordMap}
use Rattle.jb_board.specs.HistoryRule.{StandsIn, with_places}
use Rattle.jb_book.specs.History.{AreAllStops}

-- one more list is joined to those before
pub joined-more : {X Y : Type 0} (f : X → List Y) (xs : List X) (x : X) → joined (map f (xs ++ x ∷ [])) ≡ joined (map f xs) ++ f x
joined-more f [] x = append-nil (f x)
joined-more f (y ∷ xs) x = ap (λ l. f y ++ l) (joined-more f xs x) ∙ sym (append_assoc (f y) (joined (map f xs)) (f x))

-- what weighs of lists that are joined is what each weighs, added up
pub sums-joined : {X Y : Type 0} (f : X → List Y) (h : Y → ℕ) (xs : List X) → sum_by h (joined (map f xs)) ≡ sum_by (λ x. sum_by h (f x)) xs
sums-joined f h [] = refl
sums-joined f h (x ∷ xs) = sum_by-append h (f x) (joined (map f xs)) ∙ ap (λ n. sum_by h (f x) + n) (sums-joined f h xs) ∙ sym (sum_by-cons (λ y. sum_by h (f y)) x xs)

-- what is known of the history and of all stops, once they were compared
pub all-stopped : (old new : List WordMap) (made stops : List (ℕ × WordMap)) (handles : ℕ) → new ≡ old → made ≡ stops → length old ≡ handles → All (StandsIn old) made
    → ((weight : ℕ × WordMap → ℕ) → sum_by weight made ≡ sum_by weight (with_places 0 old)) → (length new ≡ handles) × AreAllStops new stops
all-stopped old new made stops handles kept are number stand once = (
  ap length kept ∙ number,
  subst (λ (x : List WordMap × List (ℕ × WordMap)). AreAllStops x.0 x.1) (λ i. (sym kept i, are i)) record { stand = stand; once = once },
)
