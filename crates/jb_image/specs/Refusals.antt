-- What a refusal of a call of the system means.
use Rattle.std.specs.Prelude.{◌||◌, ℤ, pos, Bool, true, false, if◌then◌else◌, Option, Some, None, Result, Ok, Err}
use Rattle.std.specs.Ordering.{int_eq}
use Rattle.std.specs.declared.fs.TryLockError.{TryLockError}
use Rattle.std.specs.declared.fs.TryLockError.TheVariants.{Error as LockError, WouldBlock}
use Rattle.std.specs.declared.io.Error.{Error}
use Rattle.std.specs.declared.io.ErrorKind.{ErrorKind}
use Rattle.std.specs.declared.io.ErrorKind.TheVariants.{NotADirectory, NotFound, OutOfMemory, PermissionDenied}
use Rattle.std.specs.declared.io.ErrorKind.TheVariants.{Unsupported}
use Rattle.std.specs.IoError.{error_kind, raw_os_error}
use Rattle.jb_image.specs.declared.fault.ImageFault.{ImageFault}
use Rattle.jb_image.specs.declared.fault.ImageFault.TheVariants.{InUse, Memory, Mounted, MountsUnknown, System}
use Rattle.jb_image.specs.declared.fault.MakeFault.{MakeFault}
use Rattle.jb_image.specs.declared.fault.MakeFault.TheVariants.{Exists, Image, NoLinks}
use Rattle.jb_image.specs.declared.opening.Opening.{Opening}
use Rattle.jb_image.specs.declared.opening.Opening.TheVariants.{Change, Forced, Read}

-- memory ran out, or a refusal with this number
abbrev pub call_fault_of_kind : ErrorKind → Option ℤ → ImageFault
call_fault_of_kind OutOfMemory code = Memory
call_fault_of_kind _ code = System (record { code = code })

-- the fault of a call that was refused
abbrev pub call_fault : Error → ImageFault
call_fault error = call_fault_of_kind (error_kind error) (raw_os_error error)

-- a file system that has no locks: it is refused with ENOSYS or EOPNOTSUPP
abbrev pub is_unsupported : ErrorKind → Bool
is_unsupported Unsupported = true
is_unsupported _ = false

-- a lock is had, or cannot be had on this file system; another process has it; or it is not known who has it
abbrev pub lock_answer : Result Unit TryLockError → Result Unit ImageFault
lock_answer (Ok tt) = Ok tt
lock_answer (Err WouldBlock) = Err InUse
lock_answer (Err (LockError error)) = if is_unsupported (error_kind error) then Ok tt else Err (call_fault error)

-- EPERM, EMLINK and EOPNOTSUPP are what a file system says that has no links
abbrev pub is_no_links : Option ℤ → Bool
is_no_links None = false
is_no_links (Some code) = int_eq code (pos 1) || (int_eq code (pos 31) || int_eq code (pos 95))

-- EEXIST: there is a file of the name
abbrev pub is_existing : Option ℤ → Bool
is_existing None = false
is_existing (Some code) = int_eq code (pos 17)

-- the fault of a link that was refused
abbrev pub link_fault : Error → MakeFault
link_fault error =
    if is_existing (raw_os_error error) then Exists
    else if is_no_links (raw_os_error error) then NoLinks
    else Image (call_fault error)

-- what the system did not say of the mounts: memory ran out, or it cannot be known
abbrev pub mounts_fault : ErrorKind → ImageFault
mounts_fault OutOfMemory = Memory
mounts_fault _ = MountsUnknown

-- there is no such file
abbrev pub is_missing : ErrorKind → Bool
is_missing NotFound = true
is_missing _ = false

-- no file is found by this name, or none may be looked for
abbrev pub is_unseen : ErrorKind → Bool
is_unseen NotFound = true
is_unseen NotADirectory = true
is_unseen PermissionDenied = true
is_unseen _ = false

-- whether an image may be opened of which it is asked whether it is mounted: not where it is; where that is not known,
-- only by force
abbrev pub may_open : Opening → Result Bool ImageFault → Result Unit ImageFault
may_open Read answer = Ok tt
may_open Change (Ok mounted) = if mounted then Err Mounted else Ok tt
may_open Change (Err fault) = Err fault
may_open Forced (Ok mounted) = if mounted then Err Mounted else Ok tt
may_open Forced (Err MountsUnknown) = Ok tt
may_open Forced (Err fault) = Err fault
