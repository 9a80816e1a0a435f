use Rattle.std.proofs.Common.{◌≡◌, ℕ, ◌<◌, length, slice_index, List, ◌∷◌, reverse}
use Rattle.jb_cost.specs.Cut.{RisesTo, EachFrom}
use Rattle.jb_plan.proofs.bounds.bounds_to.Given as goal

abbrev pub invariant-loop-bound : goal.invariant-loop-bound
invariant-loop-bound l =
    record {
      within : l.bound < length l.froms;
      walk : (rest : List ℕ) × (reverse l.bounds.items ≡ l.bound ∷ rest) × RisesTo l.end l.bound rest × EachFrom (λ i j. slice_index l.froms j ≡ i) l.bound rest;
    }

abbrev pub decreases-loop-bound : goal.decreases-loop-bound
decreases-loop-bound l = l.bound
