-- The whole content of a disk, and what a write that a crash cuts short makes of it.
use Rattle.std.specs.Prelude.{◌≡◌, ◌≢◌, ◌<◌, ◌⊎◌, ℕ, ◌*◌, List, [], length, get_or, take, drop}

-- the blocks of a disk, by place, each a list of bytes
abbrev pub Image : Type 0
Image = List (List ℕ)

-- the block at a place
abbrev pub block : Image → ℕ → List ℕ
block c place = get_or c place []

-- the k-th 512 bytes of a block, which a disk writes whole or not at all
abbrev pub sector : ℕ → List ℕ → List ℕ
sector k bytes = take 512 (drop (512 * k) bytes)

-- one write of a block that failed or that a crash cut short: each sector there is the old one or the written one
pub record Torn (place : ℕ) (bytes : List ℕ) (old new : Image) : Type 0 where
  pub count : length new ≡ length old
  pub elsewhere : (p : ℕ) → p ≢ place → block new p ≡ block old p
  pub size : length (block new place) ≡ length (block old place)
  pub sectors : (k : ℕ)
      → (sector k (block new place) ≡ sector k (block old place)) ⊎ (sector k (block new place) ≡ sector k bytes)

-- a step that changes no block
abbrev pub ChangesNothing : Image → Image → Type 0
ChangesNothing old new = new ≡ old

-- a crash leaves this image and no other
abbrev pub Only : Image → (Image → Type 0) → Type 0
Only c outcomes = (d : Image) → outcomes d → d ≡ c

-- this many blocks, each of this many bytes
pub record HasShape (count size : ℕ) (c : Image) : Type 0 where
  pub blocks : length c ≡ count
  pub bytes : (place : ℕ) → place < count → length (block c place) ≡ size
