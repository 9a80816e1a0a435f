-- What each call of a disk keeps and counts, whatever the disk answers.
use Rattle.std.specs.Prelude.{◌≡◌, ◌↔◌, ◌<◌, ℕ}
use Rattle.jb_disk.specs.Faults.{most_faults}
use Rattle.jb_disk.specs.Image.{Image}

-- The size of the blocks and their number stay, a disk that is honest after the call was so before it, and the counts
-- of faults before and after are as told. After one call or a run of them no call came after a write or a sync that
-- failed, and none of them failed where the count is the same, if that was so before; the count says so while it is not
-- at its top.
pub record IsDiskKept {D : Type 0} (size count faults : D → ℕ) (honest may_go_on well_asked : D → Type 0)
    (counts : ℕ → ℕ → Type 0) (old new : D) : Type 0 where
  pub same_size : size new ≡ size old
  pub same_count : count new ≡ count old
  pub was_honest : honest new → honest old
  pub counted : counts (faults old) (faults new)
  pub asked : faults old < most_faults → may_go_on old → well_asked old → well_asked new
  pub going : faults old < most_faults → may_go_on old → faults new ≡ faults old → may_go_on new

-- a call that was refused before it was tried: the contents and the moment are those of before
pub record Untouched {D : Type 0} (newest : D → Image) (may_leave : D → Image → Type 0) (moment : D → ℕ) (old new : D)
    : Type 0 where
  pub same_newest : newest new ≡ newest old
  pub same_images : (c : Image) → may_leave new c ↔ may_leave old c
  pub same_moment : moment new ≡ moment old

-- Reads alone: what a crash could leave it still may, so nothing was made durable; and where no write or sync had
-- failed, none has.
pub record OnlyReads {D : Type 0} (may_leave : D → Image → Type 0) (may_go_on : D → Type 0) (old new : D) : Type 0 where
  pub pending : (c : Image) → may_leave old c → may_leave new c
  pub going : may_go_on old → may_go_on new

-- a call that reads does what its kind of disk says of one, and reads alone
pub record OwnReads {D : Type 0} (may_leave : D → Image → Type 0) (may_go_on : D → Type 0) (made : Type 0) (old new : D)
    : Type 0 where
  pub own : made
  pub unsynced : OnlyReads may_leave may_go_on old new
