-- Credits: the most that a handle may have, and handles that are within theirs.
use Rattle.std.specs.Prelude.{ℕ, ◌≤◌, List, [], ◌∷◌}
use Rattle.std.specs.FinMap as map
use Rattle.jb_handle.specs.declared.stopped.Stopped.{Stopped}
use Rattle.jb_cost.specs.Cost.{worst_cost_of}
use Rattle.jb_cost.specs.declared.geometry.Geometry.{Geometry}

-- the greatest number of credits whose worst cost is within the limit
pub record IsMost (g : Geometry) (limit most : ℕ) : Type 0 where
  pub within : worst_cost_of g most ≤ limit
  pub greatest : (credits : ℕ) → worst_cost_of g credits ≤ limit → credits ≤ most

-- as many credits as handles, and each handle has touched no more homes than its credits
abbrev pub Covers : List ℕ → List Stopped → Type 0
Covers [] [] = Unit {0}
Covers [] (h ∷ hs) = ⊥
Covers (c ∷ cs) [] = ⊥
Covers (c ∷ cs) (h ∷ hs) = (map.len h.words ≤ c) × Covers cs hs
