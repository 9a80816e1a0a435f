-- A buffer that holds blocks which are still to be written to places in a row.
use Rattle.std.specs.Prelude.{◌<◌, ◌≤◌, ◌≡◌, ◌^◌, ℕ, ◌+◌, ◌*◌, Result, OnOk}
use Rattle.jb_block.specs.Size.{bytes_of}
use Rattle.jb_disk.specs.Image.{Image}
use Rattle.jb_disk.specs.Runs.{WroteRun, TornRun}
use Rattle.jb_disk.specs.Steps.{Steps}
use Rattle.jb_disk.specs.declared.disk.Disk.{Ghosts}
use Rattle.jb_disk.specs.declared.write_behind.WriteBehind.{WriteBehind}

-- the bytes of a block for which the buffer is
abbrev pub size_behind : WriteBehind → ℕ
size_behind b = bytes_of b.size

-- the buffer holds no block
abbrev pub HoldsNoBlock : WriteBehind → Type 0
HoldsNoBlock b = b.count ≡ 0

-- the buffer is a new one, for blocks of this many bytes
pub record IsNewFor (size : ℕ) (b : WriteBehind) : Type 0 where
  pub same_size : size_behind b ≡ size
  pub none : HoldsNoBlock b
  pub first : b.first ≡ 0

-- the buffer holds a block for this place
pub record IsBehind (b : WriteBehind) (p : ℕ) : Type 0 where
  pub from : b.first ≤ p
  pub to : p < b.first + b.count

-- the buffer is one for a disk: the blocks that it holds have room in it and places on the disk, and no place of them
-- wraps
pub record IsBehindOf {D : Type 0} (G : Ghosts D) (b : WriteBehind) (disk : D) : Type 0 where
  pub same_size : size_behind b ≡ G.size disk
  pub within : b.first + b.count ≤ G.count disk
  pub room : size_behind b * b.count ≤ 65536
  pub range : b.first + b.count < 2 ^ 64

-- once the blocks that the buffer holds are written to the old image, it is the new one
abbrev pub Owes : WriteBehind → Image → Image → Type 0
Owes b old new = WroteRun (size_behind b) b.count b.first b.run old new

-- some sectors of the blocks that the buffer holds, or none, are written to the old image, which makes the new one of
-- it
abbrev pub OwesTorn : WriteBehind → Image → Image → Type 0
OwesTorn b old new = TornRun (size_behind b) b.count b.first b.run old new

-- once it is written, what the buffer then holds makes of the new image what this change makes of the image that the
-- blocks of before would have made of the old one
abbrev pub OwesThen : WriteBehind → WriteBehind → (Image → Image) → Image → Image → Type 0
OwesThen b b' change old new = (c : Image) → Owes b old c → Owes b' new (change c)

-- A call has written some of the blocks that the buffer held, or sectors of them, or none, whatever a crash leaves
-- meanwhile. Where it succeeded, this is said of the images before and after it.
pub record WritesHeld {D T E : Type 0} (G : Ghosts D) (result : Result T E) (b : WriteBehind)
    (Done : Image → Image → Type 0)
    (old new : D) : Type 0 where
  pub done : OnOk result (Done (G.newest old) (G.newest new))
  pub torn : OwesTorn b (G.newest old) (G.newest new)
  pub steps : Steps G.may_leave G.moment G.left_since (OwesTorn b) old new

-- the buffer has room for one block more, and that one is for this place
pub record HasRoomAt (b : WriteBehind) (p : ℕ) : Type 0 where
  pub follows : b.first + b.count ≡ p
  pub room : size_behind b * b.count + size_behind b ≤ 65536
