-- What a disk that fails once shows of its fields.
use Rattle.std.specs.Prelude.{◌≡◌, ℕ, Bool, true, false, Option}
use Rattle.jb_disk.specs.OneCall.{Called}
use Rattle.jb_disk.specs.Faults.{CountsCall}
use Rattle.jb_disk.specs.Once.{is_next, next_of}
use Rattle.jb_disk.specs.declared.one_fault.OneFaultDisk.{OneFaultDisk}

-- the disk that calls are passed on to
abbrev pub disk_within : {D : Type 0} → OneFaultDisk D → D
disk_within f = f.disk

-- how many calls pass before the one that fails, or none once it has failed
abbrev pub before_of : {D : Type 0} → OneFaultDisk D → Option ℕ
before_of f = f.before

-- A call: the count of calls before the fault goes down by one. The call that fails leaves the inner disk as it is. Any
-- other is passed on once: it makes of the inner disk what that disk says of one call, and fails where that disk counts
-- a fault.
pub record Spends {D : Type 0} (faults : D → ℕ) (own : Called → D → D → Bool → Type 0) (call : Called)
    (old new : OneFaultDisk D) (ok : Bool) : Type 0 where
  pub next : before_of new ≡ next_of (before_of old)
  pub once : is_next (before_of old) ≡ false → own call (disk_within old) (disk_within new) ok
  pub passed : is_next (before_of old) ≡ false → CountsCall ok (faults (disk_within old)) (faults (disk_within new))
  pub failed : is_next (before_of old) ≡ true → disk_within new ≡ disk_within old
