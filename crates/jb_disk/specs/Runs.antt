-- Blocks in a row that are read or written by one call.
use Rattle.std.specs.Prelude.{◌≡◌, ◌≢◌, ◌<◌, ◌≤◌, ◌⊎◌, ℕ, ◌+◌, ◌*◌, ◌^◌, List, length, take, drop}
use Rattle.jb_disk.specs.Image.{Image, block, sector}

-- the k-th of the blocks of this many bytes that a buffer holds
abbrev pub part : ℕ → ℕ → List ℕ → List ℕ
part size k bytes = take size (drop (size * k) bytes)

-- n blocks from a place on, one at least, are on a disk with blocks of this size and this many of them, no place of
-- them wraps, and this many bytes have their length
pub record IsRunOn (size count place n bytes : ℕ) : Type 0 where
  pub some : 0 < n
  pub within : place + n ≤ count
  pub range : place + n < 2 ^ 64
  pub long : bytes ≡ size * n

-- the first n blocks of a buffer are those of an image, from a place on
abbrev pub ReadsRun : ℕ → ℕ → ℕ → Image → List ℕ → Type 0
ReadsRun size n place c bytes = (k : ℕ) → k < n → part size k bytes ≡ block c (place + k)

-- none of the n blocks from a place on is the one at this place
abbrev pub IsOutside : ℕ → ℕ → ℕ → Type 0
IsOutside n place p = (k : ℕ) → k < n → p ≢ place + k

-- the n blocks from a place on are those of a buffer, and each other block is as it was
pub record WroteRun (size n place : ℕ) (bytes : List ℕ) (old new : Image) : Type 0 where
  pub count : length new ≡ length old
  pub inside : (k : ℕ) → k < n → block new (place + k) ≡ part size k bytes
  pub elsewhere : (p : ℕ) → IsOutside n place p → block new p ≡ block old p

-- a write of n blocks from a place on that failed or that a crash cut short: each sector of each of them is the old one
-- or the written one, whatever the other sectors are
pub record TornRun (size n place : ℕ) (bytes : List ℕ) (old new : Image) : Type 0 where
  pub count : length new ≡ length old
  pub sizes : (p : ℕ) → length (block new p) ≡ length (block old p)
  pub sectors : (k j : ℕ) → k < n
      → (sector j (block new (place + k)) ≡ sector j (block old (place + k)))
      ⊎ (sector j (block new (place + k)) ≡ sector j (part size k bytes))
  pub elsewhere : (p : ℕ) → IsOutside n place p → block new p ≡ block old p
