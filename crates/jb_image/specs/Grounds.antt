-- What a device that is mounted stands on.
use Rattle.std.specs.Prelude.{◌≡◌, ℕ, ◌==◌, ◌||◌, not, Bool}
use Rattle.jb_image.specs.Stretches.{Meet}
use Rattle.jb_image.specs.declared.ground.Base.{Base}
use Rattle.jb_image.specs.declared.ground.Base.TheVariants.{Device, File}
use Rattle.jb_image.specs.declared.ground.Ground.{Ground}

-- two are of one file or device, and have a byte of it in common
pub record Share (one other : Ground) : Type 0 where
  pub base : one.base ≡ other.base
  pub stretch : Meet one.stretch other.stretch

-- whether a device of this major number may stand on this: on a file only a loop device (7) does, and a partition (259)
-- of one; on a device each that is one, which 0 is not
abbrev pub may_stand_on : Base → ℕ → Bool
may_stand_on (File device inode) major = major == 7 || major == 259
may_stand_on (Device own minor) major = not (major == 0)
