-- How the journal of an image is renumbered or widened, wherever it is.
use Rattle.std.specs.Prelude.{◌≡◌, ℕ, false, List, Option, Some, None, Result, Ok, Err}
use Rattle.jb_disk.specs.Image.{Image}
use Rattle.jb_disk.specs.declared.disk.Disk.{Ghosts as Disks}
use Rattle.jb_disk.specs.declared.file.FileDisk.{FileDisk}
use Rattle.jb_disk.specs.declared.start.Start.{Ghosts as Starts}
use Rattle.jb_ext.specs.declared.choosing.MapSource.{MapSource}
use Rattle.jb_format.specs.declared.change.ChangeFault.{ChangeFault}
use Rattle.jb_image.specs.Files.{as_files}
use Rattle.jb_image.specs.Images.{is_within}
use Rattle.jb_image.specs.declared.image.ImageDisk.{ImageDisk}
use Rattle.jb_image.specs.declared.judging.JournalUse.TheVariants.{RecoverInPlace}
use Rattle.jb_super.specs.declared.checked.Checksums.TheVariants.{Refused}
use Rattle.jb_commands.specs.Change.{ChangesOn}
use Rattle.jb_commands.specs.JournalPlace.{IsOpenedAt, IsShutAt, JudgesBeside}
use Rattle.jb_commands.specs.declared.fault.CommandFault.{CommandFault}
use Rattle.jb_commands.specs.declared.report.Report.{Report}

module _ {D E R : Type 0} (G : Disks (ImageDisk D E)) where
  -- the clean journal was changed, where it may be, or that is why it may not
  abbrev pub ChangesJudged : (ℕ → ℕ → Image → Image → Result R ChangeFault → Type 0) → (ℕ → ℕ → Image → Image → Type 0)
      → (ℕ → ℕ → Image → Image → Type 0) → (R → Report)
      → Result Unit CommandFault → ImageDisk D E → ImageDisk D E → Result Report CommandFault → Type 0
  ChangesJudged Does IsMidst EndsAlike report (Ok done) old new end =
      ChangesOn G Does IsMidst EndsAlike report old new end
  ChangesJudged Does IsMidst EndsAlike report (Err fault) old new end = (new ≡ old) × (end ≡ Err fault)

  -- an image was judged, where its journal is within the home blocks, as before a recovery in its place that is not
  -- forced; and then its clean journal was changed
  abbrev pub ChangesOpened : (ℕ → ℕ → Image → Image → Result R ChangeFault → Type 0) → (ℕ → ℕ → Image → Image → Type 0)
      → (ℕ → ℕ → Image → Image → Type 0) → (R → Report)
      → ImageDisk D E → ImageDisk D E → Result Report CommandFault → Type 0
  ChangesOpened Does IsMidst EndsAlike report old new end =
      (mid : ImageDisk D E) × (judged : Result Unit CommandFault)
      × JudgesBeside Refused G (is_within old) RecoverInPlace false old mid judged
      × ChangesJudged Does IsMidst EndsAlike report judged mid new end

module _ {S T : Type 0} {start : Starts S} {other : Starts T} where
  -- the image was not opened, and nothing was done; or its clean journal was changed since it was opened, by its first
  -- bytes or by a list of extents, and what the change answered is the end. If the file is honest, all that the change
  -- says of contents holds of it
  abbrev pub EndsOfChange : {R : Type 0} → (ℕ → ℕ → Image → Image → Result R ChangeFault → Type 0)
      → (ℕ → ℕ → Image → Image → Type 0) → (ℕ → ℕ → Image → Image → Type 0) → (R → Report)
      → List ℕ → Option (List ℕ) → Option (List ℕ) → Option (ImageDisk (FileDisk S start) (FileDisk T other))
      → Result Report CommandFault → Type 0
  EndsOfChange Does IsMidst EndsAlike report name extents input None end =
      (fault : CommandFault) × (end ≡ Err fault) × IsShutAt Refused start other name input None extents fault
  EndsOfChange Does IsMidst EndsAlike report name extents input (Some new) end =
      (old : ImageDisk (FileDisk S start) (FileDisk T other)) × (homes : ℕ) × (found : Option MapSource)
      × IsOpenedAt Refused input None extents old homes found
      × ChangesOpened as_files Does IsMidst EndsAlike report old new end
