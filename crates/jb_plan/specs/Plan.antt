-- What a plan says of a queue of n handles.
use Rattle.std.specs.Prelude.{◌≡◌, ℕ, List, Option}
use Rattle.jb_cost.specs.Cut.{EachPiece, total, FitsCut, IsLeastCut, IsFirstToAttain}
use Rattle.jb_plan.specs.declared.planned.Answer.{Answer}
use Rattle.jb_plan.specs.declared.planned.Answer.TheVariants.{Cut, NoCut}

module _ (c : ℕ → ℕ → ℕ) (limit n : ℕ) (ps : List (Option ℕ)) where
  -- a least cut with its total, each bound but the first after the least one that may come before it; or no cut fits
  abbrev pub Answers : Answer → Type 0
  Answers (Cut bounds sum) =
      IsLeastCut c limit n bounds.items × (total c bounds.items ≡ sum)
      × EachPiece (IsFirstToAttain c limit ps) bounds.items
  Answers NoCut = (other : List ℕ) → FitsCut c limit n other → ⊥
