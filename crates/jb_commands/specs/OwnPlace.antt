-- An image by its first bytes: a journal with home blocks, or a file system, whose own journal is looked for.
use Rattle.std.specs.Prelude.{◌≡◌, ◌⊎◌, ◌<◌, ◌-◌, ◌^◌, ℕ, ◌==◌, Bool, true, false, if◌then◌else◌, ⊤, List, Option, Some}
use Rattle.std.specs.Prelude.{None, Result, Ok, Err, length, drop, nat_lt}
use Rattle.jb_block.specs.declared.size.BlockSize.{BlockSize}
use Rattle.jb_block.specs.declared.size.BlockSize.TheVariants.{OneKib, TwoKib, FourKib}
use Rattle.jb_disk.specs.File.{IsMeasured, count_of}
use Rattle.jb_disk.specs.declared.file.FileDisk.{FileDisk}
use Rattle.jb_disk.specs.declared.start.Start.{Ghosts as Starts}
use Rattle.jb_ext.specs.Finds.{FindsJournal}
use Rattle.jb_ext.specs.OwnJournal.{FoundJournal}
use Rattle.jb_ext.specs.System.{system_in}
use Rattle.jb_ext.specs.declared.choosing.MapSource.{MapSource}
use Rattle.jb_ext.specs.declared.fault.FindFault.{FindFault}
use Rattle.jb_ext.specs.declared.fault.FindFault.TheVariants as find
use Rattle.jb_ext.specs.declared.fault.OwnFault.{OwnFault}
use Rattle.jb_ext.specs.declared.fault.OwnFault.TheVariants.{NoSystem}
use Rattle.jb_ext.specs.declared.system.FileSystem.{FileSystem}
use Rattle.jb_format.specs.Front.{homes_in}
use Rattle.jb_image.specs.Disks.{extents_of, journal_blocks, spread_count, whole_disk}
use Rattle.jb_image.specs.Files.{as_file}
use Rattle.jb_image.specs.Lists.{PartsFirst, extents_count, list_of}
use Rattle.jb_image.specs.declared.extents_disk.ExtentsDisk.{ExtentsDisk}
use Rattle.jb_image.specs.declared.extents_fault.ExtentsFault.TheVariants.{Other}
use Rattle.jb_image.specs.declared.image.ImageDisk.{ImageDisk}
use Rattle.jb_image.specs.declared.image.ImageDisk.TheVariants.{One, Two, Within}
use Rattle.jb_map.specs.declared.extent.Extent.{Extent}
use Rattle.jb_super.specs.Faults.{super_in}
use Rattle.jb_super.specs.Superblock.{Superblock}
use Rattle.jb_super.specs.declared.fault.SuperFault.{SuperFault}
use Rattle.jb_super.specs.declared.fault.SuperFault.TheVariants.{ShortBlock, NoMagic, NotVersion2}
use Rattle.jb_super.specs.declared.fault.SuperFault.TheVariants.{BlockSize as OtherSize, Geometry, Feature}
use Rattle.jb_super.specs.Checked.{read_as}
use Rattle.jb_super.specs.declared.checked.Checksums.{Checksums}
use Rattle.jb_commands.specs.Files.{IsImageOpened, IsUnread, SaysSuper}
use Rattle.jb_commands.specs.declared.fault.CommandFault.{CommandFault}
use Rattle.jb_commands.specs.declared.fault.CommandFault.TheVariants.{DeviceFault, Extents, Memory, Own, Super}
use Rattle.jb_commands.specs.declared.files.own.ImageFront.{ImageFront}
use Rattle.jb_commands.specs.declared.files.own.ImageFront.TheVariants.{Journal, System}
use Rattle.jb_commands.specs.declared.files.shut.FileFault.{FileFault}
use Rattle.jb_commands.specs.declared.files.shut.FileFault.TheVariants.{Super as OtherSuper}

-- ---- the first bytes

-- the size of blocks with this many bytes; 1 KiB where a journal's have another one
abbrev pub size_said : ℕ → BlockSize
size_said bytes = if bytes == 2048 then TwoKib else if bytes == 4096 then FourKib else OneKib

-- the size of the blocks of a file system, if there is one
abbrev pub said_size : Option FileSystem → Option BlockSize
said_size None = None
said_size (Some system) = Some (size_said system.block_size)

-- the size of the blocks of the file system whose superblock is after 1,024 of these bytes, if there is one
abbrev pub system_size : List ℕ → Option BlockSize
system_size front = if nat_lt (length front) 2048 then None else said_size (system_in (drop 1024 front))

-- an image without a journal at its front is a file system, or nothing
abbrev pub system_front : Option BlockSize → Result ImageFront FileFault
system_front (Some size) = Ok (System size)
system_front None = Err (OtherSuper NoMagic)

-- what an image is whose first bytes are refused so as a journal
abbrev pub refused_front : Option BlockSize → SuperFault → Result ImageFront FileFault
refused_front size ShortBlock = Err (OtherSuper ShortBlock)
refused_front size NoMagic = system_front size
refused_front size (NotVersion2 kind) = Err (OtherSuper (NotVersion2 kind))
refused_front size (OtherSize bytes) = Err (OtherSuper (OtherSize bytes))
refused_front size Geometry = Err (OtherSuper Geometry)
refused_front size (Feature word bits) = Err (OtherSuper (Feature word bits))

-- what an image is whose first bytes say so of a journal
abbrev pub front_by : Option BlockSize → Result Superblock SuperFault → Result ImageFront FileFault
front_by size (Ok sb) = Ok (Journal sb)
front_by size (Err fault) = refused_front size fault

-- what an image is by its first bytes: a journal with home blocks, which has checksums only where these are allowed; or
-- a file system, where no journal begins there
abbrev pub front_of_image : Checksums → List ℕ → Result ImageFront FileFault
front_of_image sums front = front_by (system_size front) (super_in (read_as sums front))

-- some first bytes say so
abbrev pub SaysFront : Checksums → ImageFront → Type 0
SaysFront sums (Journal sb) = SaysSuper sb
SaysFront sums (System size) =
    (front : List ℕ) × (super_in (read_as sums front) ≡ Err NoMagic) × (system_size front ≡ Some size)

-- ---- a file system's own journal

-- what is said of a journal that is not found
abbrev pub of_find : FindFault → CommandFault
of_find (find.Own fault) = Own fault
of_find (find.Super fault) = Super fault
of_find find.DeviceFault = DeviceFault None
of_find find.Memory = Memory

-- the journal of the file system in a file was looked for since its length was asked, and nothing else was asked of it;
-- that is the answer
abbrev pub LooksFor : {S : Type 0} {start : Starts S} → Checksums → Result FoundJournal FindFault → FileDisk S start
    → Type 0
LooksFor {S} {start} sums answer new =
    (old : FileDisk S start) × IsMeasured old × FindsJournal as_file sums answer old new

-- it was not found, for this
abbrev pub IsOwnUnfound : {S : Type 0} → Checksums → Starts S → FindFault → Type 0
IsOwnUnfound {S} sums start fault = (new : FileDisk S start) × LooksFor sums (Err fault) new

-- the image of this name was not opened: its file was not, or its file system's own journal was not found
abbrev pub IsFrontShut : {S : Type 0} → Checksums → Starts S → List ℕ → CommandFault → Type 0
IsFrontShut sums start name fault =
    IsUnread name fault ⊎ ((found : FindFault) × (fault ≡ of_find found) × IsOwnUnfound sums start found)

module _ {S T : Type 0} {start : Starts S} {other : Starts T} where
  -- the journal of the file system in a file was found, by what this says, and the image is that file, with the journal
  -- in those blocks; this many home blocks can be named in it
  abbrev pub IsOwnOpened : Checksums → ImageDisk (FileDisk S start) (FileDisk T other) → ℕ → Option MapSource → Type 0
  IsOwnOpened sums (One file) homes found = ⊥
  IsOwnOpened sums (Two pair) homes found = ⊥
  IsOwnOpened sums (Within disk) homes found =
      (own : FoundJournal) × LooksFor sums (Ok own) (whole_disk disk) × (list_of (extents_of disk) ≡ own.0)
      × (journal_blocks disk ≡ own.2.maxlen)
      × (homes ≡ homes_in own.2 (spread_count (journal_blocks disk) (count_of (whole_disk disk))))
      × (found ≡ Some own.1)

  -- the image is open, by its first bytes: with the journal at its front, or with its file system's own, and what says
  -- where that is
  abbrev pub IsOpenedByFront : Checksums → ImageDisk (FileDisk S start) (FileDisk T other) → ℕ → Option MapSource
      → Type 0
  IsOpenedByFront sums disk homes found =
      (IsImageOpened None disk homes × (found ≡ None)) ⊎ IsOwnOpened sums disk homes found

-- ---- a list of extents beside it

-- there is no file system
abbrev pub is_no_system : OwnFault → Bool
is_no_system NoSystem = true
is_no_system _ = false

-- why a file system's own journal is not found, where there is a file system
abbrev pub find_told : FindFault → Option FindFault
find_told (find.Own fault) = if is_no_system fault then None else Some (find.Own fault)
find_told (find.Super fault) = Some (find.Super fault)
find_told find.DeviceFault = Some find.DeviceFault
find_told find.Memory = Some find.Memory

-- a list agrees with the journal that was found: at no place of it has that another block; or there is no file system
abbrev pub Agrees : List Extent → Result FoundJournal FindFault → Type 0
Agrees es (Ok own) = PartsFirst es own.0 None
Agrees es (Err fault) = find_told fault ≡ None

-- what is said of a list that does not: the first place at which it has another block, or why the journal is not found
abbrev pub Disagrees : List Extent → Result FoundJournal FindFault → CommandFault → Type 0
Disagrees es (Ok own) fault = (place : ℕ) × PartsFirst es own.0 (Some place) × (fault ≡ Extents (Other place))
Disagrees es (Err found) fault = (told : FindFault) × (find_told found ≡ Some told) × (fault ≡ of_find told)

module _ {S : Type 0} {start : Starts S} where
  -- the journal of the file system in an image was looked for, and the extents agree with it
  pub record IsComparedTo (sums : Checksums) (old new : ExtentsDisk (FileDisk S start)) : Type 0 where
    pub answer : Result FoundJournal FindFault
    pub finds : FindsJournal as_file sums answer (whole_disk old) (whole_disk new)
    pub agrees : Agrees (list_of (extents_of old)) answer
    pub extents : extents_of new ≡ extents_of old
    pub journal : journal_blocks new ≡ journal_blocks old

module _ {S : Type 0} {start : Starts S} where
  -- it was looked for, and the extents do not
  pub record IsOtherThan (sums : Checksums) (old : ExtentsDisk (FileDisk S start)) (fault : CommandFault) : Type 0 where
    pub answer : Result FoundJournal FindFault
    pub new : FileDisk S start
    pub finds : FindsJournal as_file sums answer (whole_disk old) new
    pub disagrees : Disagrees (list_of (extents_of old)) answer fault

module _ {S T : Type 0} {start : Starts S} {other : Starts T} where
  -- the extents of an image have fewer blocks than the largest number
  abbrev pub AreFew : ImageDisk (FileDisk S start) (FileDisk T other) → Type 0
  AreFew (One file) = ⊤
  AreFew (Two pair) = ⊤
  AreFew (Within disk) = extents_count (list_of (extents_of disk)) < 2 ^ 64 - 1

  -- an image whose journal is within it was compared with its file system's own
  abbrev pub IsComparedImage : Checksums → ImageDisk (FileDisk S start) (FileDisk T other)
      → ImageDisk (FileDisk S start) (FileDisk T other) → Type 0
  IsComparedImage sums (Within old) (Within new) = IsComparedTo sums old new
  IsComparedImage sums old new = new ≡ old

  -- its journal is another one
  abbrev pub IsOtherImage : Checksums → ImageDisk (FileDisk S start) (FileDisk T other) → CommandFault → Type 0
  IsOtherImage sums (One file) fault = ⊥
  IsOtherImage sums (Two pair) fault = ⊥
  IsOtherImage sums (Within disk) fault = IsOtherThan sums disk fault
