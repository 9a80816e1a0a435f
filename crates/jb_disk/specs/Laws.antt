-- Laws of the definitions alone.
use Rattle.std.specs.Prelude.{IsTrue, ◌<◌, ◌↔◌, ℕ, ◌/◌, List}
use Rattle.jb_block.specs.Size.{bytes_of}
use Rattle.jb_disk.specs.Image.{Image, block, sector, HasShape}
use Rattle.jb_disk.specs.History.{DiskHistory, IsHistorySound, MayLeave}
use Rattle.jb_disk.specs.Versions.{IsAmong, IsChosen, versions}
use Rattle.jb_disk.specs.declared.disk.Disk.{Ghosts}

-- `own` of a run of blocks holds of this kind of disk without its condition
abbrev pub RunsAsCalls : {D : Type 0} → Ghosts D → Type 0
RunsAsCalls G = IsTrue G.runs_as_calls

-- an image of the disk's shape, each sector of which is one of its versions
pub record TakesVersions (h : DiskHistory) (c : Image) : Type 0 where
  pub shape : HasShape h.count (bytes_of h.size) c
  pub each : (place k : ℕ) → place < h.count → k < bytes_of h.size / 512
      → IsAmong (versions h.first h.steps place) k (sector k (block c place))

-- a crash may leave an image exactly where each of its sectors is one of its versions
abbrev pub ImagesTakeVersions : Type 0
ImagesTakeVersions = (h : DiskHistory) (c : Image) → IsHistorySound h → MayLeave h.first h.steps c ↔ TakesVersions h c

-- a crash may leave an image exactly where some choice of numbers names it
abbrev pub ImagesAreChosen : Type 0
ImagesAreChosen =
    (h : DiskHistory) (c : Image) → IsHistorySound h
    → MayLeave h.first h.steps c ↔ ((choice : List ℕ) × IsChosen h choice c)
