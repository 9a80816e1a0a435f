-- How the images that a crash may leave change from call to call, for any disk with moments.
use Rattle.std.specs.Prelude.{◌≤◌, ◌⊎◌, ℕ}
use Rattle.jb_disk.specs.Image.{Image}

-- One call: each image that a crash may leave now comes by the step from one that it could leave before,
-- and a crash since a moment before the call could have left what it could before the call, or what it may leave now.
pub record Goes {D : Type 0} (may_leave : D → Image → Type 0) (moment : D → ℕ) (left_since : D → ℕ → Image → Type 0)
    (step : Image → Image → Type 0) (old new : D) : Type 0 where
  pub crash : (c : Image) → may_leave new c → (d : Image) × may_leave old d × step d c
  pub later : moment old ≤ moment new
  pub nothing_else : (t : ℕ) (c : Image) → t ≤ moment old → left_since new t c → left_since old t c ⊎ may_leave new c
  pub keeps : (t : ℕ) (c : Image) → t ≤ moment old → left_since old t c → left_since new t c

-- A run of calls: a crash at any moment of it leaves an image that has P.
pub record LeavesOnly {D : Type 0} (moment : D → ℕ) (left_since : D → ℕ → Image → Type 0) (old new : D)
    (P : Image → Type 0) : Type 0 where
  pub later : moment old ≤ moment new
  pub each : (c : Image) → left_since new (moment old) c → P c
  -- of moments before this run
  pub before : (t : ℕ) (c : Image) → t ≤ moment old → left_since new t c → left_since old t c ⊎ P c
