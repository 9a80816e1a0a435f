-- What a file as a disk shows of its fields, and what its record says of what it holds.
use Rattle.std.specs.Prelude.{◌≡◌, ◌/◌, ℕ, Bool, List, [], ◌∷◌, length, Option}
use Rattle.jb_block.specs.Size.{bytes_of}
use Rattle.jb_block.specs.declared.size.BlockSize.{BlockSize}
use Rattle.jb_disk.specs.Events.{SystemCall, Asked, Gave, Flushed, Measured, IsHonestFile, NotesAtMost, Leaves}
use Rattle.jb_disk.specs.Events.{LeftFrom, NoneAfter, NoneFailed}
use Rattle.jb_disk.specs.Failures.{TellsCall}
use Rattle.jb_disk.specs.Faults.{CountsOne}
use Rattle.jb_disk.specs.Image.{Image}
use Rattle.jb_disk.specs.OneCall.{Called, Reads, Writes, Syncs}
use Rattle.jb_disk.specs.contracts.start.UnknownStart.TheImpl.{ghosts as unknown}
use Rattle.jb_disk.specs.declared.failure.Failure.{Failure}
use Rattle.jb_disk.specs.declared.file.FileDisk.{FileDisk}
use Rattle.jb_disk.specs.declared.start.Start.{Ghosts}
use Rattle.jb_disk.specs.declared.start.Unknown.{Unknown}

-- a file of which nothing is supposed
abbrev pub UnknownFile : Type 0
UnknownFile = FileDisk Unknown unknown

-- what one call of a disk notes of a file: a sync its one event, with the answer that it gives
abbrev pub NotesCall : Called → Bool → List SystemCall → List SystemCall → Type 0
NotesCall (Reads place) ok old new = NotesAtMost Asked ok old new
NotesCall (Writes place bytes) ok old new = NotesAtMost Gave ok old new
NotesCall Syncs ok old new = new ≡ Flushed ok ∷ old

module _ {S : Type 0} {start : Ghosts S} where
  -- the size of its blocks
  abbrev pub size_of_blocks : FileDisk S start → BlockSize
  size_of_blocks f = f.size

  -- how many blocks it has
  abbrev pub count_of : FileDisk S start → ℕ
  count_of f = f.blocks

  -- how many calls have failed
  abbrev pub faults_of : FileDisk S start → ℕ
  faults_of f = f.faults

  -- the last call that failed, and why, as it tells it
  abbrev pub failure_of : FileDisk S start → Option Failure
  failure_of f = f.failed

  -- the calls so far, the newest first
  abbrev pub events_of : FileDisk S start → List SystemCall
  events_of f = f.host.log.events

  -- the file was asked its length and nothing else, and the disk has the whole blocks of it
  abbrev pub IsMeasured : FileDisk S start → Type 0
  IsMeasured f = (len : ℕ) × (events_of f ≡ Measured len ∷ []) × (count_of f ≡ len / bytes_of (size_of_blocks f))

  -- its answers so far are those of an honest file that had the contents of `S`
  abbrev pub IsHonest : FileDisk S start → Type 0
  IsHonest f = IsHonestFile (bytes_of (size_of_blocks f)) (count_of f) start.content (events_of f)

  -- what it holds after the calls so far, if it is honest
  abbrev pub content_of : FileDisk S start → Image
  content_of f = start.content (length (events_of f))

  -- what a crash may leave of it, if it is honest
  abbrev pub FileLeaves : FileDisk S start → Image → Type 0
  FileLeaves f = Leaves (bytes_of (size_of_blocks f)) start.content (events_of f)

  -- what a crash may have left of it when this many calls had been made, or later, if it is honest
  abbrev pub FileLeft : FileDisk S start → ℕ → Image → Type 0
  FileLeft f = LeftFrom (bytes_of (size_of_blocks f)) start.content (events_of f)

  -- no write and no sync of it has failed
  abbrev pub MayGoOn : FileDisk S start → Type 0
  MayGoOn f = NoneFailed (events_of f)

  -- nothing was asked of it after a write or a sync that failed
  abbrev pub IsWellAsked : FileDisk S start → Type 0
  IsWellAsked f = NoneAfter (events_of f)

  -- a call is one of the system at most, with the answer that it gives; one that fails counts one fault, and is what
  -- is told from then on, with its reason
  pub record IsOneCall (call : Called) (old new : FileDisk S start) (ok : Bool) : Type 0 where
    pub counted : CountsOne ok (faults_of old) (faults_of new)
    pub noted : NotesCall call ok (events_of old) (events_of new)
    pub told : TellsCall call ok (failure_of old) (failure_of new)
