-- What a run of calls makes of the images that a crash may leave.
use Rattle.std.specs.Prelude.{ℕ}
use Rattle.jb_disk.specs.Image.{Image}
use Rattle.jb_disk.specs.Throughout.{Throughout}

-- A run of calls as one step: each image that a crash may leave now, or could have left since the run began, comes by
-- the step from one that a crash could leave before it.
abbrev pub Steps : {D : Type 0} → (D → Image → Type 0) → (D → ℕ) → (D → ℕ → Image → Type 0) → (Image → Image → Type 0)
    → D → D → Type 0
Steps may_leave moment left_since step old new =
    Throughout may_leave moment left_since old new (λ c. (d : Image) × may_leave old d × step d c)
