-- What is run in the file of an image, and why an image is not run.
use Rattle.std.specs.Prelude.{ℕ, ◌<◌, Bool, List}
use Rattle.jb_book.specs.Origin.{Begun}
use Rattle.jb_book.specs.Since.{EndsSince}
use Rattle.jb_disk.specs.Faults.{most_faults}
use Rattle.jb_disk.specs.File.{faults_of, IsWellAsked, MayGoOn}
use Rattle.jb_disk.specs.declared.file.FileDisk.{FileDisk}
use Rattle.jb_disk.specs.declared.start.Start.{Ghosts as Starts}
use Rattle.jb_handle.specs.declared.shape.Shape.{Shape}
use Rattle.jb_image.specs.Files.{as_file}
use Rattle.jb_image.specs.declared.image_geometry.ImageGeometry.{ImageGeometry}
use Rattle.jb_journal.specs.Notes.{Known, Stop}
use Rattle.jb_journal.specs.OpenFile.{RefusesImage, WasRecoveredOrMade}
use Rattle.jb_journal.specs.Run.{EndsRun, RanOn}
use Rattle.jb_journal.specs.RunFaults.{IsNotRun}
use Rattle.jb_journal.specs.Start.{started_on}
use Rattle.jb_journal.specs.declared.image_not_run.ImageNotRun.{ImageNotRun}
use Rattle.jb_journal.specs.declared.image_not_run.ImageNotRun.TheVariants.{Open, Run}
use Rattle.jb_journal.specs.declared.not_run.NotRun.{NotRun}
use Rattle.jb_journal.specs.declared.options.Options.{Options}
use Rattle.jb_journal.specs.declared.ran.Ran.{Ran}

-- where a file was opened so, and no write and no sync of it had failed by then, no call of it came after one that has
-- failed
abbrev pub AskedSince : {S : Type 0} {start : Starts S} → FileDisk S start → FileDisk S start → Type 0
AskedSince opened disk = IsWellAsked opened → MayGoOn opened → faults_of disk < most_faults → IsWellAsked disk

module _ {T S : Type 0} {start : Starts S} (geometry : ImageGeometry) (options : Options)
    (may : Begun → Shape → Type 0 → ℕ → ℕ → List Stop → Known → T → Type 0) where
  -- What was run in an image: its file was opened with its journal recovered, or its journal was made in it, and the
  -- run was of that very file. All is said of it that is said of a run
  pub record RanInImage (left : Ran T (FileDisk S start)) : Type 0 where
    pub opened : FileDisk S start
    pub ready : WasRecoveredOrMade geometry opened
    pub ran : RanOn as_file opened (started_on as_file opened) (may (started_on as_file opened)) options.workers left
    pub ends : EndsRun options.checkpoint left
    pub since : EndsSince as_file (started_on as_file opened) left.disk left.trail.items
    pub asked : AskedSince opened left.disk

  -- the file of an image was opened so, and its journal was not run, or its run has no whole answer: the file is given
  -- back as that run says
  pub record IsNotRunInImage (back : NotRun T (FileDisk S start)) : Type 0 where
    pub opened : FileDisk S start
    pub ready : WasRecoveredOrMade geometry opened
    pub refused : IsNotRun as_file opened (started_on as_file opened) options.commits (may (started_on as_file opened))
        options.workers back
    pub asked : AskedSince opened back.disk

  -- why there is no run of an image: it was not opened, for this; or it was, and is given back as it is then
  abbrev pub IsImageNotRun : ImageNotRun T (FileDisk S start) → Type 0
  IsImageNotRun (Open fault) = RefusesImage start geometry.block_size fault
  IsImageNotRun (Run back) = IsNotRunInImage back
