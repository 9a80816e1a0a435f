-- The history of a disk in memory: what its blocks held first, and each write and sync since, the newest first.
use Rattle.std.specs.Prelude.{◌≡◌, ◌<◌, ◌≤◌, ◌⊎◌, ℕ, ◌+◌, List, [], ◌∷◌, length, set}
use Rattle.jb_block.specs.declared.size.BlockSize.{BlockSize}
use Rattle.jb_block.specs.Size.{bytes_of}
use Rattle.jb_disk.specs.Image.{Image, Torn, HasShape}

-- a call that succeeded and that a crash may have cut short, or that says what a crash must leave
pub data HistoryStep : Type 0 where
  Wrote : ℕ → List ℕ → HistoryStep
  Synced : HistoryStep

-- a disk in memory
pub record DiskHistory : Type 0 where
  pub size : BlockSize
  pub count : ℕ
  pub first : Image
  pub steps : List HistoryStep
  pub faults : ℕ

-- the newest content
abbrev pub replay : Image → List HistoryStep → Image
replay first [] = first
replay first (Wrote place bytes ∷ older) = set (replay first older) place bytes
replay first (Synced ∷ older) = replay first older

-- what a crash may leave after these steps
abbrev pub MayLeave : Image → List HistoryStep → Image → Type 0
MayLeave first [] c = c ≡ first
MayLeave first (Wrote place bytes ∷ older) c = (d : Image) × MayLeave first older d × Torn place bytes d c
MayLeave first (Synced ∷ older) c = c ≡ replay first older

-- what a crash may have left when t steps had been made, or later
abbrev pub LeftSince : Image → List HistoryStep → ℕ → Image → Type 0
LeftSince first [] t c = (t ≤ 0) × MayLeave first [] c
LeftSince first (step ∷ older) t c =
    ((t ≤ length older + 1) × MayLeave first (step ∷ older) c) ⊎ LeftSince first older t c

-- each write was one of a whole block at a place of the disk
abbrev pub AreWhole : ℕ → ℕ → List HistoryStep → Type 0
AreWhole count size [] = Unit {0}
AreWhole count size (Wrote place bytes ∷ older) = (place < count) × (length bytes ≡ size) × AreWhole count size older
AreWhole count size (Synced ∷ older) = AreWhole count size older

-- the first content and each write have the disk's shape
pub record IsHistorySound (h : DiskHistory) : Type 0 where
  pub shape : HasShape h.count (bytes_of h.size) h.first
  pub whole : AreWhole h.count (bytes_of h.size) h.steps

-- the newest content: the first one with all writes made
abbrev pub newest_of : DiskHistory → Image
newest_of h = replay h.first h.steps
