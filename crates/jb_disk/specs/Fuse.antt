-- What contracts see of a disk with a fuse.
use Rattle.std.specs.Prelude.{◌≡◌, ◌≢◌, ◌-◌, ℕ, Bool, false}
use Rattle.jb_disk.specs.OneCall.{Called}
use Rattle.jb_disk.specs.Faults.{CountsCall, CountsOne}
use Rattle.jb_disk.specs.declared.fuse.FuseDisk.{FuseDisk}

-- the disk that calls are passed on to
abbrev pub disk_of : {D : Type 0} → FuseDisk D → D
disk_of f = f.disk

-- how many calls still pass
abbrev pub left_of : {D : Type 0} → FuseDisk D → ℕ
left_of f = f.left

-- how many calls the fuse itself has failed
abbrev pub failed_calls : {D : Type 0} → FuseDisk D → ℕ
failed_calls f = f.failed

-- A call: one fewer is left. While any was left, it is passed on, once: it makes of the disk inside the fuse what that
-- disk says of one call, fails where that disk counts a fault, and the fuse counts none of its own. When none was left,
-- that disk stays as it is, and the fuse counts one.
pub record Burns {D : Type 0} (faults : D → ℕ) (own : Called → D → D → Bool → Type 0) (call : Called)
    (old new : FuseDisk D) (ok : Bool) : Type 0 where
  pub left : left_of new ≡ left_of old - 1
  pub once : left_of old ≢ 0 → own call (disk_of old) (disk_of new) ok
  pub passed : left_of old ≢ 0 → CountsCall ok (faults (disk_of old)) (faults (disk_of new))
  pub unfailed : left_of old ≢ 0 → failed_calls new ≡ failed_calls old
  pub blown : left_of old ≡ 0 → disk_of new ≡ disk_of old
  pub counted : left_of old ≡ 0 → CountsOne false (failed_calls old) (failed_calls new)
