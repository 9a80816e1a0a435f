-- A cut of this many log blocks, and what is left to judge of one from some bound on.
use Rattle.std.specs.Prelude.{◌≡◌, ℕ, ◌≤◌, List}
use Rattle.jb_cost.specs.Cut.{RisesTo, EachFrom, total_from, total, FitsCut}

-- the bounds are a cut of n handles that fits the limit and takes this many blocks
abbrev pub CostsExactly : (ℕ → ℕ → ℕ) → ℕ → ℕ → ℕ → List ℕ → Type 0
CostsExactly c limit n blocks bounds = FitsCut c limit n bounds × (total c bounds ≡ blocks)

-- the same of the bounds after a
pub record GoesOn (c : ℕ → ℕ → ℕ) (limit n a blocks : ℕ) (bounds : List ℕ) : Type 0 where
  pub rises : RisesTo n a bounds
  pub fits : EachFrom (λ i j. c i j ≤ limit) a bounds
  pub sum : total_from c a bounds ≡ blocks
