-- Why an image is not opened, before it is said of which file; and what a file is that has a journal's superblock at
-- its front.
use Rattle.std.specs.Prelude.{◌≡◌, ◌<◌, ℕ, ⊤, Bool, if◌then◌else◌, List, None, Some, Err}
use Rattle.jb_block.specs.Size.{bytes_of}
use Rattle.jb_disk.specs.File.{IsMeasured, count_of, size_of_blocks}
use Rattle.jb_disk.specs.declared.file.FileDisk.{FileDisk}
use Rattle.jb_disk.specs.declared.start.Start.{Ghosts as Starts}
use Rattle.jb_format.specs.Front.{homes_in}
use Rattle.jb_image.specs.Disks.{extents_of, journal_blocks, whole_disk}
use Rattle.jb_image.specs.Files.{as_files}
use Rattle.jb_image.specs.Lists.{extents_in, list_of}
use Rattle.jb_map.specs.declared.extent.Extent.{Extent}
use Rattle.jb_image.specs.declared.extents_disk.ExtentsDisk.{ExtentsDisk}
use Rattle.jb_image.specs.declared.image.ImageDisk.{ImageDisk}
use Rattle.jb_image.specs.declared.opening.Opening.{Opening}
use Rattle.jb_image.specs.declared.opening.Opening.TheVariants.{Change, Forced, Read}
use Rattle.jb_super.specs.Faults.{super_in}
use Rattle.jb_super.specs.Superblock.{Superblock}
use Rattle.jb_super.specs.declared.checked.Checksums.{Checksums}
use Rattle.jb_commands.specs.Files.{SaysSuper}
use Rattle.jb_commands.specs.FoundWithin.{IsFoundWithin, IsOfSizes, IsOtherSize, IsTried}
use Rattle.jb_commands.specs.JournalPlace.{IsHeldWithin, IsJournalWithin, IsNoPlace}
use Rattle.jb_commands.specs.OwnPlace.{IsOwnUnfound}
use Rattle.jb_commands.specs.declared.files.shut.FileFault.{FileFault}
use Rattle.jb_commands.specs.declared.files.shut.FileFault.TheVariants.{Super}
use Rattle.jb_commands.specs.declared.files.shut.PairFault.{PairFault}
use Rattle.jb_commands.specs.declared.files.shut.PairFault.TheVariants.{Homes, Journal, Long, SameFile, Short}
use Rattle.jb_commands.specs.declared.files.shut.OwnShut.{OwnShut}
use Rattle.jb_commands.specs.declared.files.shut.OwnShut.TheVariants as own
use Rattle.jb_commands.specs.declared.files.shut.WithinFault.{WithinFault}
use Rattle.jb_commands.specs.declared.files.shut.WithinFault.TheVariants.{Extents, File, List as NoList, System}

-- how an image is opened that is to be recovered: to be read where nothing is written, else to be changed, which may be
-- forced
abbrev pub opening_for : Bool → Bool → Opening
opening_for dry_run force = if dry_run then Read else if force then Forced else Change

-- a file was not read, or another program has locked it, or it is not known whether it is mounted, or some bytes of it
-- are refused as a superblock
abbrev pub IsFileShut : FileFault → Type 0
IsFileShut (Super fault) = (front : List ℕ) × (super_in front ≡ Err fault)
IsFileShut _ = ⊤

-- an image was not opened: its file was not, or its file system's own journal was not found
abbrev pub IsOwnShut : {S : Type 0} → Checksums → Starts S → OwnShut → Type 0
IsOwnShut sums start (own.File fault) = IsFileShut fault
IsOwnShut sums start (own.Find fault) = IsOwnUnfound sums start fault

-- the two files are one, or one of them was not opened, or the journal's has fewer blocks than its superblock says, or
-- more
abbrev pub IsPairShut : PairFault → Type 0
IsPairShut SameFile = ⊤
IsPairShut (Journal fault) = IsFileShut fault
IsPairShut Short = (sb : Superblock) × (blocks : ℕ) × SaysSuper sb × (blocks < sb.maxlen)
IsPairShut (Long blocks maxlen) = (maxlen < blocks) × ((sb : Superblock) × SaysSuper sb × (maxlen ≡ sb.maxlen))
IsPairShut (Homes fault) = IsFileShut fault

-- a file was not opened, or no superblock of it is taken
abbrev pub IsFoundShut : WithinFault → Type 0
IsFoundShut NoList = ⊥
IsFoundShut (File fault) = IsFileShut fault
IsFoundShut (System fault) = IsOtherSize fault
IsFoundShut (Extents fault) = IsOfSizes fault × IsTried (Err (Extents fault))

-- a file was not opened, or these extents hold no journal in it
abbrev pub IsSpreadShut : List Extent → WithinFault → Type 0
IsSpreadShut es NoList = ⊥
IsSpreadShut es (File fault) = IsFileShut fault
IsSpreadShut es (System fault) = IsOtherSize fault
IsSpreadShut es (Extents x) = IsNoPlace es x

-- a file was not opened, or the list is none of extents, or they hold no journal in it
abbrev pub IsListShut : List ℕ → WithinFault → Type 0
IsListShut list NoList = extents_in list ≡ None
IsListShut list (File fault) = IsFileShut fault
IsListShut list (System fault) = IsOtherSize fault
IsListShut list (Extents x) = (es : List Extent) × (extents_in list ≡ Some es) × IsNoPlace es x

module _ {S : Type 0} {start : Starts S} where
  -- a file of blocks of the size that a superblock says, which some bytes are; it was asked its length and nothing else
  pub record IsFront (disk : FileDisk S start) (sb : Superblock) : Type 0 where
    pub says : SaysSuper sb
    pub size : bytes_of (size_of_blocks disk) ≡ sb.block_size
    pub measured : IsMeasured disk

module _ {S : Type 0} {start : Starts S} where
  -- the same, where the superblock was looked for at a block
  pub record IsFrontWithin (disk : FileDisk S start) (sb : Superblock) : Type 0 where
    pub found : IsFoundWithin sb
    pub size : bytes_of (size_of_blocks disk) ≡ sb.block_size
    pub measured : IsMeasured disk

module _ {S : Type 0} {start : Starts S} where
  -- a file, asked its length and nothing else, with a journal with this superblock in these extents
  abbrev pub JoinsFile : List Extent → Superblock → ExtentsDisk (FileDisk S start) → Type 0
  JoinsFile es sb disk =
      (list_of (extents_of disk) ≡ es) × (journal_blocks disk ≡ sb.maxlen)
      × IsHeldWithin es sb (count_of (whole_disk disk)) × IsMeasured (whole_disk disk)

module _ {S T : Type 0} {start : Starts S} {other : Starts T} where
  -- some bytes are a superblock, which says the image's block size; this many home blocks can be named in it, and its
  -- journal is in these extents
  abbrev pub IsOpenedOver : List Extent → ImageDisk (FileDisk S start) (FileDisk T other) → ℕ → Type 0
  IsOpenedOver es disk homes =
      (sb : Superblock) × IsFoundWithin sb × (as_files.size disk ≡ sb.block_size)
      × (homes ≡ homes_in sb (as_files.count disk)) × IsJournalWithin es sb disk
