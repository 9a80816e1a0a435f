-- What a user of a journal wants to know of a crash.
use Rattle.std.specs.Prelude.{◌≡◌, ℕ, ◌+◌, List, Ok}
use Rattle.jb_disk.specs.Image.{Image}
use Rattle.jb_super.specs.Superblock.{Superblock}
use Rattle.jb_handle.specs.declared.stopped.Stopped.{Stopped}
use Rattle.jb_format.specs.Front.{super_on}
use Rattle.jb_format.specs.Ready.{revoking}
use Rattle.jb_deck.specs.Open.{recovered_home}
use Rattle.jb_deck.specs.Calls.{IsRecoveredTo}

-- of a disk whose superblock was accepted at first: a crash may leave no image but ones that are recovered to these
-- handles, which took this many numbers
pub record LeavesAll {D : Type 0} (may_leave : D → Image → Type 0) (size count : ℕ) (base : Image)
    (settled : List Stopped) (numbers : ℕ) (disk : D) : Type 0 where
  pub own : Superblock
  pub was : super_on size count base ≡ Ok own
  pub each : (c : Image) → may_leave disk c → IsRecoveredTo (revoking own) (own.sequence + 1 + numbers) size count
      (recovered_home size count base) settled c
