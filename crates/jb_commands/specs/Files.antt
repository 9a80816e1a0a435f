-- How the commands over images end over files.
use Rattle.std.specs.Prelude.{◌≡◌, ◌⊎◌, ◌<◌, ℕ, ⊤, List, [], Option, Some, None, Result, Ok, Err}
use Rattle.jb_disk.specs.File.{IsMeasured, count_of, size_of_blocks}
use Rattle.jb_disk.specs.declared.file.FileDisk.{FileDisk}
use Rattle.jb_disk.specs.declared.start.Start.{Ghosts as Starts}
use Rattle.jb_format.specs.Front.{homes_in}
use Rattle.jb_image.specs.Create.{WasMade}
use Rattle.jb_image.specs.declared.image_geometry.ImageGeometry.{ImageGeometry}
use Rattle.jb_image.specs.Files.{as_files}
use Rattle.jb_image.specs.Pair.{back_disk, front_disk, past_states}
use Rattle.jb_image.specs.declared.image.ImageDisk.{ImageDisk}
use Rattle.jb_image.specs.declared.image.ImageDisk.TheVariants.{One, Two, Within}
use Rattle.jb_image.specs.declared.pair.PairDisk.{PairDisk}
use Rattle.jb_super.specs.Faults.{super_in}
use Rattle.jb_super.specs.Superblock.{Superblock}
use Rattle.jb_super.specs.declared.fault.SuperFault.TheVariants.{Geometry as NoGeometry}
use Rattle.jb_args.specs.PlainCommand.{GivenOptions}
use Rattle.jb_commands.specs.Format.{new_limit_of}
use Rattle.jb_commands.specs.Options.{AreGood, IsAskedBy, IsFirstBad, IsJournalLength}
use Rattle.jb_commands.specs.declared.fault.CommandFault.{CommandFault}
use Rattle.jb_commands.specs.declared.fault.CommandFault.TheVariants.{BadOption, CannotMake, CannotRead, DeviceFault}
use Rattle.jb_commands.specs.declared.fault.CommandFault.TheVariants.{Geometry as BadGeometry, InUse, JournalLength}
use Rattle.jb_commands.specs.declared.fault.CommandFault.TheVariants.{Memory, MountsUnknown, NoLinks, SameFile, Super}
use Rattle.jb_commands.specs.declared.report.Report.{Report}
use Rattle.jb_commands.specs.declared.report.Report.TheVariants.{Formatted}

-- ---- images that are opened

-- the file of this name was not read, or another program has locked it, or it is not known whether it is mounted, or it
-- is that of the journal too, or its first bytes are refused as a superblock
abbrev pub IsUnread : List ℕ → CommandFault → Type 0
IsUnread name (CannotRead told code) = told.now ≡ name
IsUnread name (InUse told holder) = told.now ≡ name
IsUnread name (MountsUnknown told) = told.now ≡ name
IsUnread name (SameFile told) = told.now ≡ name
IsUnread name (Super fault) = (front : List ℕ) × (super_in front ≡ Err fault)
IsUnread name Memory = Unit {0}
IsUnread name _ = ⊥

-- some first bytes are this superblock
abbrev pub SaysSuper : Superblock → Type 0
SaysSuper sb = (front : List ℕ) × (super_in front ≡ Ok sb)

-- a journal's first bytes are a superblock, and its file has fewer blocks than that says
abbrev pub IsShort : CommandFault → Type 0
IsShort fault = (fault ≡ Super NoGeometry) × ((sb : Superblock) × (blocks : ℕ) × SaysSuper sb × (blocks < sb.maxlen))

-- the same where its file has more blocks: this many, where the superblock says this many
abbrev pub IsLong : CommandFault → Type 0
IsLong (JournalLength blocks maxlen) = (maxlen < blocks) × ((sb : Superblock) × SaysSuper sb × (maxlen ≡ sb.maxlen))
IsLong _ = ⊥

-- the image of this name, with the journal in a file of its own where one is named, was not opened
abbrev pub IsShut : List ℕ → Option (List ℕ) → CommandFault → Type 0
IsShut name None fault = IsUnread name fault
IsShut name (Some journal) fault = IsUnread name fault ⊎ (IsUnread journal fault ⊎ (IsShort fault ⊎ IsLong fault))

module _ {S T : Type 0} {start : Starts S} {other : Starts T} where
  -- a journal of exactly its superblock's blocks, and a file of blocks of the same size; they were asked their lengths
  -- and nothing else
  pub record AreTwoFiles (pair : PairDisk (FileDisk T other) (FileDisk S start)) (sb : Superblock) : Type 0 where
    pub count : count_of (front_disk pair) ≡ sb.maxlen
    pub size : size_of_blocks (back_disk pair) ≡ size_of_blocks (front_disk pair)
    pub front : IsMeasured (front_disk pair)
    pub back : IsMeasured (back_disk pair)
    pub fresh : past_states pair ≡ []

  -- the files that were named: one, or two; they were asked their lengths and nothing else
  abbrev pub IsHeldBy : Option (List ℕ) → ImageDisk (FileDisk S start) (FileDisk T other) → Superblock → Type 0
  IsHeldBy None (One file) sb = IsMeasured file
  IsHeldBy None (Two pair) sb = ⊥
  IsHeldBy None (Within disk) sb = ⊥
  IsHeldBy (Some journal) (One file) sb = ⊥
  IsHeldBy (Some journal) (Within disk) sb = ⊥
  IsHeldBy (Some journal) (Two pair) sb = AreTwoFiles pair sb

  -- some first bytes are a superblock, which says the image's block size; this many home blocks are after the journal
  -- that it says, and can be named in it
  abbrev pub IsImageOpened : Option (List ℕ) → ImageDisk (FileDisk S start) (FileDisk T other) → ℕ → Type 0
  IsImageOpened journal disk homes =
      (front : List ℕ) × (sb : Superblock) × (super_in front ≡ Ok sb) × (as_files.size disk ≡ sb.block_size)
      × (homes ≡ homes_in sb (as_files.count disk)) × IsHeldBy journal disk sb

-- ---- images that are made

-- the system refuses the file of this name, or memory ran out; or it has no links there
abbrev pub IsUnnamed : List ℕ → CommandFault → Type 0
IsUnnamed name (CannotMake told code) = told.now ≡ name
IsUnnamed name (NoLinks told) = told.now ≡ name
IsUnnamed name Memory = ⊤
IsUnnamed name _ = ⊥

-- the same, or the journal was not written
abbrev pub IsNotMade : List ℕ → CommandFault → Type 0
IsNotMade name (DeviceFault failure) = ⊤
IsNotMade name fault = IsUnnamed name fault

-- the file of this name was not made: an option is bad; or none is, and a journal may not have this many blocks
abbrev pub IsBadFormat : GivenOptions → CommandFault → Type 0
IsBadFormat o (BadOption option) = IsFirstBad o option
IsBadFormat o BadGeometry = AreGood o × (IsJournalLength o.journal → ⊥)
IsBadFormat o _ = ⊥

module _ {S T : Type 0} {start : Starts S} {other : Starts T} where
  -- the new image is one file, in which a journal was made since it was opened, and its limit is the end. If the file
  -- is honest, the journal is in it
  abbrev pub IsMade : ImageGeometry → ImageDisk (FileDisk S start) (FileDisk T other) → Result Report CommandFault
      → Type 0
  IsMade g (One new) end = WasMade g new × (end ≡ Ok (Formatted (new_limit_of g)))
  IsMade g (Two pair) end = ⊥
  IsMade g (Within disk) end = ⊥

  -- the image of this name was made, or it was not
  abbrev pub EndsOfMaking : List ℕ → ImageGeometry → Option (ImageDisk (FileDisk S start) (FileDisk T other))
      → Result Report CommandFault → Type 0
  EndsOfMaking name g None end = (fault : CommandFault) × (end ≡ Err fault) × IsNotMade name fault
  EndsOfMaking name g (Some new) end = IsMade g new end

  -- an option or the length is bad, and no file was looked at; or they are good, and the image that they ask for was
  -- made, or not
  abbrev pub EndsOfFormat : List ℕ → GivenOptions → Option (ImageDisk (FileDisk S start) (FileDisk T other))
      → Result Report CommandFault → Type 0
  EndsOfFormat name o image end =
      ((fault : CommandFault) × (end ≡ Err fault) × IsBadFormat o fault × (image ≡ None))
      ⊎ (AreGood o × IsJournalLength o.journal × ((g : ImageGeometry) × IsAskedBy o g × EndsOfMaking name g image end))
