-- Which superblock is found at the first block of the extents.
use Rattle.std.specs.Prelude.{◌≡◌, ◌⊎◌, ◌==◌, ℕ, ⊤, if◌then◌else◌, List, Option, None, Some, Result, Ok, Err}
use Rattle.jb_block.specs.Size.{IsBlockSize, bytes_of}
use Rattle.jb_block.specs.declared.size.BlockSize.{BlockSize}
use Rattle.jb_block.specs.declared.size.BlockSize.TheVariants.{FourKib, OneKib, TwoKib}
use Rattle.jb_ext.specs.System.{system_in}
use Rattle.jb_image.specs.declared.extents_fault.ExtentsFault.{ExtentsFault}
use Rattle.jb_image.specs.declared.extents_fault.ExtentsFault.TheVariants.{BlockSizes, NoJournal}
use Rattle.jb_image.specs.declared.judging.FileSystemFault.{FileSystemFault}
use Rattle.jb_image.specs.declared.judging.FileSystemFault.TheVariants as system
use Rattle.jb_ext.specs.declared.system.FileSystem.{FileSystem}
use Rattle.jb_super.specs.Faults.{super_in}
use Rattle.jb_super.specs.Superblock.{Superblock}
use Rattle.jb_super.specs.declared.fault.SuperFault.{SuperFault}
use Rattle.jb_super.specs.declared.fault.SuperFault.TheVariants.{BlockSize as BadSize, Feature, Geometry, NoMagic}
use Rattle.jb_super.specs.declared.fault.SuperFault.TheVariants.{NotVersion2, ShortBlock}
use Rattle.jb_commands.specs.Files.{SaysSuper}
use Rattle.jb_commands.specs.declared.files.shut.FileFault.{FileFault}
use Rattle.jb_commands.specs.declared.files.shut.FileFault.TheVariants.{Super}
use Rattle.jb_commands.specs.declared.files.shut.WithinFault.{WithinFault}
use Rattle.jb_commands.specs.declared.files.shut.WithinFault.TheVariants.{Extents, File, List as NoList, System}

-- ---- the block in blocks of one size

-- a block that is refused as a superblock: it is none of version 1 or 2, or it is one
abbrev pub try_refused : SuperFault → Result (Option Superblock) SuperFault
try_refused ShortBlock = Ok None
try_refused NoMagic = Ok None
try_refused (NotVersion2 kind) = if kind == 3 then Err (NotVersion2 kind) else Ok None
try_refused (BadSize size) = Err (BadSize size)
try_refused Geometry = Err Geometry
try_refused (Feature word bits) = Err (Feature word bits)

-- the superblock that these bytes are, where it says blocks of this size
abbrev pub try_of : BlockSize → List ℕ → Result (Option Superblock) SuperFault
try_of size front = elim (super_in front) [
  | Ok sb ↦ if sb.block_size == bytes_of size then Ok (Some sb) else Ok None
  | Err fault ↦ try_refused fault
]

-- a block of this size was tried, which has some bytes; or there is no such block
abbrev pub IsTry : BlockSize → Result (Option Superblock) SuperFault → Type 0
IsTry size tried = (tried ≡ Ok None) ⊎ ((front : List ℕ) × (tried ≡ try_of size front))

-- some bytes are refused as a superblock for this
abbrev pub IsRefusedAs : SuperFault → Type 0
IsRefusedAs fault = (front : List ℕ) × (super_in front ≡ Err fault)

-- some bytes are the superblock of a try, or are refused so
abbrev pub IsSaid : Result (Option Superblock) SuperFault → Type 0
IsSaid (Ok None) = ⊤
IsSaid (Ok (Some sb)) = SaysSuper sb
IsSaid (Err fault) = IsRefusedAs fault

-- ---- some sizes

-- two superblocks, in blocks of two sizes
abbrev pub of_sizes : Superblock → Superblock → WithinFault
of_sizes one other = Extents (BlockSizes one.block_size other.block_size)

-- after the sizes before, of which one superblock was found, or none, or that is why there is none: one more size
abbrev pub with_try : Result (Option Superblock) WithinFault → Result (Option Superblock) SuperFault
    → Result (Option Superblock) WithinFault
with_try (Ok None) (Ok found) = Ok found
with_try (Ok None) (Err fault) = Err (File (Super fault))
with_try (Ok (Some one)) (Ok (Some other)) = Err (of_sizes one other)
with_try (Ok (Some one)) (Ok None) = Ok (Some one)
with_try (Ok (Some one)) (Err fault) = Ok (Some one)
with_try (Err (File fault)) (Ok (Some found)) = Ok (Some found)
with_try (Err (File fault)) (Ok None) = Err (File fault)
with_try (Err (File fault)) (Err later) = Err (File fault)
with_try (Err NoList) tried = Err NoList
with_try (Err (System fault)) tried = Err (System fault)
with_try (Err (Extents fault)) tried = Err (Extents fault)

-- there is no superblock, or there are two
abbrev pub IsOfSizes : ExtentsFault → Type 0
IsOfSizes NoJournal = ⊤
IsOfSizes (BlockSizes one other) = ⊤
IsOfSizes _ = ⊥

-- some bytes are the superblock that was found, or are refused so
abbrev pub IsSaidSo : Result (Option Superblock) WithinFault → Type 0
IsSaidSo (Ok None) = ⊤
IsSaidSo (Ok (Some sb)) = SaysSuper sb
IsSaidSo (Err NoList) = ⊥
IsSaidSo (Err (System fault)) = ⊥
IsSaidSo (Err (File (Super fault))) = IsRefusedAs fault
IsSaidSo (Err (File fault)) = ⊤
IsSaidSo (Err (Extents fault)) = IsOfSizes fault

-- the superblock that was found, or why there is none
abbrev pub super_chosen : Result (Option Superblock) WithinFault → Result Superblock WithinFault
super_chosen (Ok (Some sb)) = Ok sb
super_chosen (Ok None) = Err (Extents NoJournal)
super_chosen (Err fault) = Err fault

-- some bytes are the superblock of this file system, or of none
abbrev pub IsReadOf : Option FileSystem → Type 0
IsReadOf read = (front : List ℕ) × (read ≡ system_in front)

-- the sizes that are tried: that of the file system, where there is one, or else each
abbrev pub Chooses : Option FileSystem → Result Superblock WithinFault → Type 0
Chooses (Some read) answer =
    (size : BlockSize) × (bytes_of size ≡ read.block_size)
    × ((tried : Result (Option Superblock) SuperFault) × IsTry size tried
    × (answer ≡ super_chosen (with_try (Ok None) tried)))
Chooses None answer =
    (one two four : Result (Option Superblock) SuperFault) × IsTry OneKib one × IsTry TwoKib two × IsTry FourKib four
    × (answer ≡ super_chosen (with_try (with_try (with_try (Ok None) one) two) four))

-- a superblock was looked for so, with this answer
abbrev pub IsTried : Result Superblock WithinFault → Type 0
IsTried answer = (read : Option FileSystem) × IsReadOf read × Chooses read answer

-- this one was found
pub record IsFoundWithin (sb : Superblock) : Type 0 where
  pub says : SaysSuper sb
  pub chosen : IsTried (Ok sb)

-- some bytes are the superblock of a file system, whose blocks have a size that a journal's cannot have, and this many
-- bytes
abbrev pub IsOtherSize : FileSystemFault → Type 0
IsOtherSize (system.BlockSize size) =
    (read : FileSystem) × IsReadOf (Some read) × (size ≡ read.block_size) × (IsBlockSize size → ⊥)
IsOtherSize _ = ⊥

-- no superblock is taken: a file was not read, or one is refused; the file system's blocks have another size; there is
-- none, or two
abbrev pub IsNotFound : WithinFault → Type 0
IsNotFound NoList = ⊥
IsNotFound (File (Super fault)) = IsRefusedAs fault × IsTried (Err (File (Super fault)))
IsNotFound (File fault) = ⊤
IsNotFound (System fault) = IsOtherSize fault
IsNotFound (Extents fault) = IsOfSizes fault × IsTried (Err (Extents fault))

-- a file was not read
abbrev pub IsNotRead : FileFault → Type 0
IsNotRead (Super fault) = ⊥
IsNotRead fault = ⊤
