-- What holds of a history between any two steps.
use Rattle.std.specs.Prelude.{◌≡◌, ℕ, suc, true, List, [], ◌∷◌, ◌++◌, All, Some, slice_get}
use Rattle.std.specs.List.{sum_by}
use mathlib.Core.List.{IsPrefix}
use mathlib.Core.Option.{some}
use lib.ListN.{get_elem?}
use Rattle.jb_board.specs.declared.view.View.{View}

module _ {E : Type 0} where
  -- the entries with their places, from this one on
  abbrev pub with_places : ℕ → List E → List (ℕ × E)
  with_places n [] = []
  with_places n (e ∷ es) = (n, e) ∷ with_places (suc n) es

  -- the entries with one more at their end
  abbrev pub with_last : List E → E → List E
  with_last es e = es ++ e ∷ []

  -- the second history begins with the first one
  abbrev pub IsFirstPart : List E → List E → Type 0
  IsFirstPart es log = IsPrefix es log

  -- the entry is at its place
  abbrev pub StandsIn : List E → ℕ × E → Type 0
  StandsIn log e = slice_get log e.0 ≡ Some e.1

  -- The history begins with what the seat has seen and was told of, and has what was made for it at its places. The
  -- writer has seen all of it
  pub record Knows (keeper : ℕ) (log : List E) (seat : ℕ) (v : View E) : Type 0 where
    pub seen : IsPrefix v.seen log
    pub told : IsPrefix v.told log
    pub whole : v.keeps ≡ true → (seat ≡ keeper) × (v.seen ≡ log)
    pub stands : All (StandsIn log) v.mine

  -- There is one history. It has one writer at most, and each of its entries was made for one seat
  pub record HasOneHistory (views : List (View E)) : Type 0 where
    pub keeper : ℕ
    pub log : List E
    pub fits : (seat : ℕ) (v : View E) → get_elem? views seat ≡ some v → Knows keeper log seat v
    pub made : (h : ℕ × E → ℕ) → sum_by (λ (v : View E). sum_by h v.mine) views ≡ sum_by h (with_places 0 log)
