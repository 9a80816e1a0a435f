-- When numbers make an image, and what its making does to its file.
use Rattle.std.specs.Prelude.{◌≡◌, ◌+◌, ◌*◌, ◌^◌, ◌<◌, ◌≤◌, ℕ, Bool, true, false, List, Result, Ok, Err, OnOk, set}
use Rattle.std.specs.Prelude.{Option, None, Some}
use Rattle.jb_block.specs.Size.{bytes_of}
use Rattle.jb_block.specs.Width.{is_wide}
use Rattle.jb_disk.specs.File.{IsMeasured, count_of, failure_of, size_of_blocks}
use Rattle.jb_disk.specs.Image.{Only, Torn}
use Rattle.jb_disk.specs.KeptOn.{KeptOn}
use Rattle.jb_disk.specs.Steps.{Steps}
use Rattle.jb_disk.specs.declared.disk.Disk.{Ghosts as Disks}
use Rattle.jb_disk.specs.declared.failure.Failure.{Failure}
use Rattle.jb_disk.specs.declared.file.FileDisk.{FileDisk}
use Rattle.jb_disk.specs.declared.start.Start.{Ghosts as Starts}
use Rattle.jb_image.specs.Files.{as_file}
use Rattle.jb_format.specs.Format.{FormatFaults, new_block}
use Rattle.jb_format.specs.declared.fault.FormatFault.{FormatFault}
use Rattle.jb_format.specs.declared.fault.FormatFault.TheVariants.{DeviceFault}
use Rattle.jb_image.specs.declared.allocation.Allocation.{Allocation}
use Rattle.jb_image.specs.declared.allocation.Allocation.TheVariants.{Sparse, Whole}
use Rattle.jb_image.specs.declared.fault.MakeFault.{MakeFault}
use Rattle.jb_image.specs.declared.fault.MakeFault.TheVariants.{Device, DeviceFault as DeviceUntold}
use Rattle.jb_image.specs.declared.image_geometry.ImageGeometry.{ImageGeometry}

-- the journal has as many blocks as one may have, the image a length that a file may have, and each home block a number
-- of the journal's width
pub record MakesImage (g : ImageGeometry) : Type 0 where
  pub least : 9 ≤ g.journal
  pub most : g.journal < 2 ^ 31
  pub len : (g.journal + g.homes) * bytes_of g.block_size < 2 ^ 63
  pub numbers : is_wide g.width ≡ false → g.homes ≤ 2 ^ 32

-- the fault of a disk that tells this of its last failed call
abbrev pub device_fault_of : Option Failure → MakeFault
device_fault_of None = DeviceUntold
device_fault_of (Some failure) = Device failure

-- its blocks get no room before they are first written
abbrev pub is_sparse : Allocation → Bool
is_sparse Sparse = true
is_sparse Whole = false

-- block 0 of the journal that is asked for, in blocks of this size
abbrev pub block_made : ℕ → ImageGeometry → List ℕ
block_made size g = new_block (is_wide g.width) size g.journal g.max_transaction g.uuid

-- A journal was formatted on a disk, with this answer: no block has changed but block 0, which is that of the new
-- journal then, and nothing is pending. A crash in its midst leaves what the disk might have left, with some new
-- sectors of block 0.
pub record FormatsOn {D : Type 0} (G : Disks D) (g : ImageGeometry) (old new : D) (answer : Result Unit FormatFault)
    : Type 0 where
  pub kept : KeptOn G (FormatFaults answer) old new
  pub written : G.honest new → OnOk answer (G.newest new ≡ set (G.newest old) 0 (block_made (G.size old) g))
  pub torn : G.honest new → Torn 0 (block_made (G.size old) g) (G.newest old) (G.newest new)
  pub steps : G.honest new → Steps G.may_leave G.moment G.left_since (Torn 0 (block_made (G.size old) g)) old new
  pub durable : G.honest new → OnOk answer (Only (G.newest new) (G.may_leave new))

-- the same of a file of the blocks that were asked for, which was asked its length and nothing else before
pub record IsFormatted {S : Type 0} {start : Starts S} (g : ImageGeometry) (old new : FileDisk S start)
    (answer : Result Unit FormatFault) : Type 0 where
  pub size : size_of_blocks old ≡ g.block_size
  pub count : count_of old ≡ g.journal + g.homes
  pub measured : IsMeasured old
  pub formatted : FormatsOn as_file g old new answer

module _ {S : Type 0} {start : Starts S} where
  -- the journal was made in a file since that was opened
  abbrev pub WasMade : ImageGeometry → FileDisk S start → Type 0
  WasMade g new = (old : FileDisk S start) × IsFormatted g old new (Ok tt)

module _ {S : Type 0} (start : Starts S) where
  -- a call of a file failed while a journal was made in it
  abbrev pub MakingFailed : ImageGeometry → Type 0
  MakingFailed g = (old new : FileDisk S start) × IsFormatted g old new (Err DeviceFault)

  -- the same, and the file tells that this call failed
  abbrev pub MakingTold : ImageGeometry → Failure → Type 0
  MakingTold g failure =
      (old new : FileDisk S start) × IsFormatted g old new (Err DeviceFault) × (failure_of new ≡ Some failure)
