-- What the sum over the pieces of a cut says.
use Rattle.std.specs.Prelude.{◌≡◌, ℕ, ◌≤◌, List}
use Rattle.jb_cost.specs.Cut.{EachPiece, total}
use Rattle.jb_price.specs.declared.check_cut.Sum.{Sum}
use Rattle.jb_price.specs.declared.check_cut.Sum.TheVariants.{Within, Over}
use Rattle.jb_price.specs.Verdict.{IsFirstOver}

-- the pieces' costs added up, where all fit, or the first piece over the limit
abbrev pub SumSays : (ℕ → ℕ → ℕ) → ℕ → List ℕ → Sum → Type 0
SumSays c limit bounds (Within sum) = EachPiece (λ i j. c i j ≤ limit) bounds × (total c bounds ≡ sum)
SumSays c limit bounds (Over i j) = IsFirstOver c limit bounds i j
