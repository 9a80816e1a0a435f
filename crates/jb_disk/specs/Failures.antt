-- What a disk tells of a call that failed.
use Rattle.std.specs.Prelude.{◌≡◌, ℕ, ◌==◌, Bool, true, false, if◌then◌else◌, Option, Some, Result, Ok, Err}
use Rattle.std.specs.IoError.{raw_os_error}
use Rattle.std.specs.declared.io.Error.{Error}
use Rattle.jb_disk.specs.OneCall.{Called, Reads, Writes, Syncs}
use Rattle.jb_disk.specs.declared.failure.FailedCall.{FailedCall}
use Rattle.jb_disk.specs.declared.failure.FailedCall.TheVariants.{Read, Sync, Write}
use Rattle.jb_disk.specs.declared.failure.Failure.{Failure}
use Rattle.jb_disk.specs.declared.failure.FailureReason.{FailureReason}
use Rattle.jb_disk.specs.declared.failure.FailureReason.TheVariants.{Short, System}

-- the reason of a call that the system refused: the number of its error, where it has one
abbrev pub system_reason : Error → FailureReason
system_reason error = System (record { code = raw_os_error error })

-- whether a call moved this many bytes, and if it did not why
abbrev pub moved : Result ℕ Error → ℕ → Result Unit FailureReason
moved (Ok bytes) len = if bytes == len then Ok tt else Err Short
moved (Err error) len = Err (system_reason error)

-- a call, without the bytes that it gives
abbrev pub call_of : Called → FailedCall
call_of (Reads place) = Read place
call_of (Writes place bytes) = Write place
call_of Syncs = Sync

-- what is told after a call of this answer: what was told before, unless it failed
abbrev pub told_after : FailedCall → Result Unit FailureReason → Option Failure → Option Failure
told_after call (Ok tt) old = old
told_after call (Err reason) old = Some (record { call = call; reason = reason })

-- What is told after a call, by whether it succeeds: after one that fails that it failed, for some reason; otherwise
-- what was told before.
abbrev pub TellsCall : Called → Bool → Option Failure → Option Failure → Type 0
TellsCall call true old new = new ≡ old
TellsCall call false old new = (reason : FailureReason) × (new ≡ Some (record { call = call_of call; reason = reason }))
