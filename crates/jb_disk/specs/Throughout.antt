-- What a crash leaves over a run of calls: at its end, and at each moment of it.
use Rattle.std.specs.Prelude.{◌⊎◌, ℕ}
use Rattle.jb_disk.specs.Image.{Image}
use Rattle.jb_disk.specs.Time.{LeavesOnly}

-- each image that a crash may leave now has P
pub record AllHave {D : Type 0} (may_leave : D → Image → Type 0) (disk : D) (P : Image → Type 0) : Type 0 where
  pub each : (c : Image) → may_leave disk c → P c

-- a crash at the end of a run, and at any moment of it, leaves an image that has P
pub record Throughout {D : Type 0} (may_leave : D → Image → Type 0) (moment : D → ℕ)
    (left_since : D → ℕ → Image → Type 0)
    (old new : D) (P : Image → Type 0) : Type 0 where
  pub now : AllHave may_leave new P
  pub leaves : LeavesOnly moment left_since old new P

-- the image has P or it has Q
pub record OneOf (P Q : Image → Type 0) (c : Image) : Type 0 where
  pub is : P c ⊎ Q c
