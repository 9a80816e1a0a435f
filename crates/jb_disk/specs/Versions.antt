-- What a crash may make of the sectors of a disk in memory, and how a choice of numbers names one outcome.
use Rattle.std.specs.Prelude.{◌≡◌, ◌<◌, ℕ, zero, suc, ◌+◌, ◌*◌, ◌/◌, ◌%◌, cond, eqb, List, [], ◌∷◌, ◌++◌, length}
use Rattle.std.specs.Prelude.{get_or}
use Rattle.jb_block.specs.Size.{bytes_of}
use Rattle.jb_disk.specs.Image.{Image, block, sector, HasShape}
use Rattle.jb_disk.specs.History.{DiskHistory, HistoryStep, Wrote, Synced, replay}

-- the image at the last sync that succeeded, or the first image where there was none
abbrev pub synced : Image → List HistoryStep → Image
synced first [] = first
synced first (Wrote place bytes ∷ older) = synced first older
synced first (Synced ∷ older) = replay first older

-- what has been written to a block since then, in order
abbrev pub written : List HistoryStep → ℕ → List (List ℕ)
written [] place = []
written (Wrote p bytes ∷ older) place = cond (eqb p place) (written older place ++ bytes ∷ []) (written older place)
written (Synced ∷ older) place = []

-- the versions of a block, and so of each of its sectors: number 0 is that of the sync, the last is the newest
abbrev pub versions : Image → List HistoryStep → ℕ → List (List ℕ)
versions first steps place = block (synced first steps) place ∷ written steps place

-- one for a block that has been written
abbrev pub one_if_any : List (List ℕ) → ℕ
one_if_any [] = 0
one_if_any (_ ∷ _) = 1

-- how many blocks below a place have been written since the last sync
abbrev pub written_below : List HistoryStep → ℕ → ℕ
written_below steps zero = 0
written_below steps (suc place) = written_below steps place + one_if_any (written steps place)

-- the version that a number names, modulo how many versions there are
abbrev pub version : List (List ℕ) → ℕ → List ℕ
version contents number = get_or contents (number % length contents) []

-- The image that a choice names: the sectors that have been written take the numbers of the choice in rising order
-- of place and of sector within the block, and 0 where there are no more.
pub record IsChosen (h : DiskHistory) (choice : List ℕ) (c : Image) : Type 0 where
  pub shape : HasShape h.count (bytes_of h.size) c
  pub each : (place k : ℕ) → place < h.count → k < bytes_of h.size / 512
      → sector k (block c place)
      ≡ sector k (version (versions h.first h.steps place)
      (get_or choice (written_below h.steps place * (bytes_of h.size / 512) + k) 0))

-- the k-th sector of one of these contents
abbrev pub IsAmong : List (List ℕ) → ℕ → List ℕ → Type 0
IsAmong contents k bytes = (n : ℕ) × (n < length contents) × (bytes ≡ sector k (get_or contents n []))
