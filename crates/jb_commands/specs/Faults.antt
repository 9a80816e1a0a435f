-- The status, the line and the hint of each way in which a command ends without an answer, and which faults end it so.
use Rattle.std.specs.Prelude.{ℕ, ℤ, ◌==◌, ◌&&◌, ◌||◌, if◌then◌else◌, List, [], ◌∷◌, Option, None, codes}
use Rattle.jb_args.specs.declared.hint.Hint.{Hint}
use Rattle.jb_args.specs.declared.hint.Hint.TheVariants as hint
use Rattle.jb_disk.specs.declared.failure.Failure.{Failure}
use Rattle.jb_dump.specs.declared.fault.DumpFault.{DumpFault}
use Rattle.jb_dump.specs.declared.fault.DumpFault.TheVariants as dumping
use Rattle.jb_ext.specs.declared.fault.OwnFault.{OwnFault}
use Rattle.jb_ext.specs.declared.fault.OwnFault.TheVariants as own
use Rattle.jb_image.specs.declared.extents_fault.ExtentsFault.{ExtentsFault}
use Rattle.jb_image.specs.declared.extents_fault.ExtentsFault.TheVariants as extents
use Rattle.jb_image.specs.declared.judging.FileSystemFault.{FileSystemFault}
use Rattle.jb_image.specs.declared.judging.FileSystemFault.TheVariants as system
use Rattle.jb_format.specs.declared.change.ChangeFault.{ChangeFault}
use Rattle.jb_format.specs.declared.change.ChangeFault.TheVariants as changing
use Rattle.jb_format.specs.declared.fault.FormatFault.{FormatFault}
use Rattle.jb_format.specs.declared.fault.FormatFault.TheVariants as formatting
use Rattle.jb_recover.specs.declared.checked_fault.CheckedPeekFault.{CheckedPeekFault}
use Rattle.jb_recover.specs.declared.checked_fault.CheckedPeekFault.TheVariants as peeking
use Rattle.jb_recover.specs.declared.checked_fault.CheckedFault.{CheckedFault}
use Rattle.jb_recover.specs.declared.checked_fault.CheckedFault.TheVariants as recovering
use Rattle.jb_scan.specs.declared.wrong.Summed.{Summed}
use Rattle.jb_scan.specs.declared.wrong.Summed.TheVariants as summed
use Rattle.jb_super.specs.declared.checked.CheckedSuperFault.{CheckedSuperFault}
use Rattle.jb_super.specs.declared.checked.CheckedSuperFault.TheVariants as checked
use Rattle.jb_super.specs.declared.fault.SuperFault.{SuperFault}
use Rattle.jb_super.specs.declared.fault.SuperFault.TheVariants as super
use Rattle.jb_commands.specs.FaultLines.{named, parts_of}
use Rattle.jb_commands.specs.Lines.{PairNames, line_naming}
use Rattle.jb_commands.specs.OwnLines.{own_words}
use Rattle.jb_commands.specs.declared.fault.CommandFault.{CommandFault}
use Rattle.jb_commands.specs.declared.fault.CommandFault.TheVariants.{CannotRead, InUse, MountsUnknown, NoLinks}
use Rattle.jb_commands.specs.declared.fault.CommandFault.TheVariants.{SameFile, CannotMake, BadOption, TooLong}
use Rattle.jb_commands.specs.declared.fault.CommandFault.TheVariants.{ReadFault, Super, JournalLength, FileSystem}
use Rattle.jb_commands.specs.declared.fault.CommandFault.TheVariants.{Extents, BadRevoke, HomeOutOfRange, NoHome}
use Rattle.jb_commands.specs.declared.fault.CommandFault.TheVariants.{NeedsRecovery, NumbersSpent, BlockSize, Accounts}
use Rattle.jb_commands.specs.declared.fault.CommandFault.TheVariants.{Geometry, DeviceFault, Memory, WriteFault, Own}
use Rattle.jb_commands.specs.declared.fault.CommandFault.TheVariants.{ChecksumType, SuperChecksum, BadChecksum, Lost}
use Rattle.jb_commands.specs.declared.streams.fault_line.Numbers.{Numbers}
use Rattle.jb_commands.specs.declared.streams.fault_line.Numbers.TheVariants as numbers

-- the exit status
abbrev pub status_of : CommandFault → ℕ
status_of (CannotRead name code) = 2
status_of (InUse name holder) = 2
status_of (MountsUnknown name) = 2
status_of (NoLinks name) = 2
status_of (SameFile name) = 2
status_of (CannotMake name code) = 2
status_of (BadOption option) = 2
status_of (TooLong name) = 2
status_of (ReadFault code) = 1
status_of (Super fault) = 1
status_of (JournalLength blocks maxlen) = 1
status_of (FileSystem fault) = 1
status_of (Extents fault) = 1
status_of (Own fault) = 1
status_of (ChecksumType kind) = 1
status_of SuperChecksum = 1
status_of (BadChecksum what place) = 1
status_of (Lost place) = 1
status_of (BadRevoke place) = 1
status_of (HomeOutOfRange home number homes) = 1
status_of (NoHome home homes) = 1
status_of NeedsRecovery = 1
status_of NumbersSpent = 1
status_of BlockSize = 1
status_of Accounts = 1
status_of Geometry = 1
status_of (DeviceFault failure) = 1
status_of Memory = 1
status_of WriteFault = 1

-- what a block with a wrong checksum is called
abbrev pub sum_words : Summed → List ℕ
sum_words summed.Descriptor = codes "BadChecksum descriptor"
sum_words summed.Revoke = codes "BadChecksum revoke"
sum_words summed.Commit = codes "BadChecksum commit"
sum_words summed.Data = codes "BadChecksum data"

-- the name of a superblock's fault, and its numbers: of a feature word, 1, 2 or 3, those of its bits that are not taken
abbrev pub super_words : SuperFault → List ℕ × Numbers
super_words super.ShortBlock = (codes "Super ShortBlock", numbers.None)
super_words super.NoMagic = (codes "Super NoMagic", numbers.None)
super_words (super.NotVersion2 kind) = (codes "Super NotVersion2", numbers.One kind)
super_words (super.BlockSize size) = (codes "Super BlockSize", numbers.One size)
super_words super.Geometry = (codes "Super Geometry", numbers.None)
super_words (super.Feature word bits) = (codes "Super Feature", numbers.Two word bits)

-- the same of a journal that is not recovered into a file system: the bytes of that one's blocks
abbrev pub system_words : FileSystemFault → List ℕ × Numbers
system_words (system.BlockSize size) = (codes "FileSystem BlockSize", numbers.One size)
system_words system.Uuid = (codes "FileSystem Uuid", numbers.None)
system_words system.Clean = (codes "FileSystem Clean", numbers.None)
system_words system.Newer = (codes "FileSystem Newer", numbers.None)
system_words system.Unrecovered = (codes "FileSystem Unrecovered", numbers.None)

-- the same of extents that do not hold the journal: a block, or how many they have
abbrev pub extents_words : ExtentsFault → List ℕ × Numbers
extents_words (extents.Overlap block) = (codes "Extents Overlap", numbers.One block)
extents_words (extents.PastEnd block) = (codes "Extents PastEnd", numbers.One block)
extents_words (extents.Short blocks) = (codes "Extents Short", numbers.One blocks)
extents_words (extents.Long blocks) = (codes "Extents Long", numbers.One blocks)
extents_words extents.NoJournal = (codes "Extents NoJournal", numbers.None)
extents_words (extents.BlockSizes one other) = (codes "Extents BlockSizes", numbers.Two one other)
extents_words (extents.Front block) = (codes "Extents Front", numbers.One block)
extents_words (extents.Home home) = (codes "Extents Home", numbers.One home)
extents_words extents.Nothing = (codes "Extents Nothing", numbers.None)
extents_words (extents.Other place) = (codes "Extents Other", numbers.One place)
extents_words (extents.Broken place) = (codes "Extents Broken", numbers.One place)

-- the name of a fault, and its numbers
abbrev pub fault_words : CommandFault → List ℕ × Numbers
fault_words (CannotRead name code) = (codes "cannot read", numbers.None)
fault_words (InUse name holder) = (codes "in use", numbers.None)
fault_words (MountsUnknown name) = (codes "mounts unknown", numbers.None)
fault_words (NoLinks name) = (codes "no links", numbers.None)
fault_words (SameFile name) = (codes "same file", numbers.None)
fault_words (CannotMake name code) = (codes "cannot make", numbers.None)
fault_words (BadOption option) = (codes "bad option", numbers.None)
fault_words (TooLong name) = (codes "too long", numbers.None)
fault_words (ReadFault code) = (codes "ReadFault", numbers.None)
fault_words (Super fault) = super_words fault
fault_words (JournalLength blocks maxlen) = (codes "JournalLength", numbers.Two blocks maxlen)
fault_words (FileSystem fault) = system_words fault
fault_words (Extents fault) = extents_words fault
fault_words (Own fault) = own_words fault
fault_words (ChecksumType kind) = (codes "Super ChecksumType", numbers.One kind)
fault_words SuperChecksum = (codes "Super Checksum", numbers.None)
fault_words (BadChecksum what place) = (sum_words what, numbers.One place)
fault_words (Lost place) = (codes "Lost", numbers.One place)
fault_words (BadRevoke place) = (codes "BadRevoke", numbers.One place)
fault_words (HomeOutOfRange home number homes) = (codes "HomeOutOfRange", numbers.Two home number)
fault_words (NoHome home homes) = (codes "NoHome", numbers.One home)
fault_words NeedsRecovery = (codes "NeedsRecovery", numbers.None)
fault_words NumbersSpent = (codes "NumbersSpent", numbers.None)
fault_words BlockSize = (codes "BlockSize", numbers.None)
fault_words Accounts = (codes "Accounts", numbers.None)
fault_words Geometry = (codes "Geometry", numbers.None)
fault_words (DeviceFault failure) = (codes "DeviceFault", numbers.None)
fault_words Memory = (codes "Memory", numbers.None)
fault_words WriteFault = (codes "WriteFault", numbers.None)

-- the line on standard error. Of a command over two files it ends with the name of the one that it is about, where that
-- is known
abbrev pub line_of : Option PairNames → CommandFault → List ℕ
line_of names fault = line_naming (parts_of (fault_words fault).0 (fault_words fault).1) (named names fault)

-- what a second line is about after the line of a superblock that is refused
abbrev pub super_hint : SuperFault → Hint
super_hint super.ShortBlock = hint.SuperShortBlock
super_hint super.NoMagic = hint.SuperNoMagic
super_hint (super.NotVersion2 kind) = hint.SuperNotVersion2
super_hint (super.BlockSize size) = hint.SuperBlockSize
super_hint super.Geometry = hint.SuperGeometry
super_hint (super.Feature word bits) =
    if word == 2 && (bits == 8 || bits == 16) then hint.SuperSummed else hint.SuperFeature

-- the same of a journal that is not recovered into a file system
abbrev pub system_hint : FileSystemFault → Hint
system_hint (system.BlockSize size) = hint.FileSystemBlockSize
system_hint system.Uuid = hint.FileSystemUuid
system_hint system.Clean = hint.FileSystemClean
system_hint system.Newer = hint.FileSystemNewer
system_hint system.Unrecovered = hint.FileSystemUnrecovered

-- the same of extents that do not hold the journal
abbrev pub extents_hint : ExtentsFault → Hint
extents_hint (extents.Overlap block) = hint.ExtentsOverlap
extents_hint (extents.PastEnd block) = hint.ExtentsPastEnd
extents_hint (extents.Short blocks) = hint.ExtentsShort
extents_hint (extents.Long blocks) = hint.ExtentsLong
extents_hint extents.NoJournal = hint.ExtentsNoJournal
extents_hint (extents.BlockSizes one other) = hint.ExtentsBlockSizes
extents_hint (extents.Front block) = hint.ExtentsFront
extents_hint (extents.Home home) = hint.ExtentsHome
extents_hint extents.Nothing = hint.ExtentsNothing
extents_hint (extents.Other place) = hint.ExtentsOther
extents_hint (extents.Broken place) = hint.ExtentsBroken

-- the same of a file system's own journal that is not found
abbrev pub own_hint : OwnFault → Hint
own_hint own.NoSystem = hint.OwnNoSystem
own_hint own.Device = hint.OwnDevice
own_hint (own.Feature bits) = hint.OwnFeature
own_hint own.NoJournal = hint.OwnNone
own_hint own.External = hint.OwnExternal
own_hint (own.Field field number) = hint.OwnField
own_hint (own.Descriptor block) = hint.OwnDescriptor
own_hint (own.Table block) = hint.OwnTable
own_hint (own.Inode fault) = hint.OwnInode
own_hint (own.Map fault) = hint.OwnMap
own_hint own.Differs = hint.OwnDiffers
own_hint (own.NoSuper block) = hint.OwnNoSuper
own_hint own.Short = hint.OwnShort

-- what a second line is about after the line of a fault
abbrev pub hint_of : CommandFault → Hint
hint_of (CannotRead name code) = hint.CannotRead code
hint_of (InUse name holder) = hint.InUse holder
hint_of (MountsUnknown name) = hint.MountsUnknown
hint_of (NoLinks name) = hint.NoLinks
hint_of (SameFile name) = hint.SameFile
hint_of (CannotMake name code) = hint.CannotMake code
hint_of (BadOption option) = hint.BadOption option
hint_of (TooLong name) = hint.TooLong
hint_of (ReadFault code) = hint.ReadFault code
hint_of (Super fault) = super_hint fault
hint_of (JournalLength blocks maxlen) = hint.JournalLength
hint_of (FileSystem fault) = system_hint fault
hint_of (Extents fault) = extents_hint fault
hint_of (Own fault) = own_hint fault
hint_of (ChecksumType kind) = hint.SuperChecksumType
hint_of SuperChecksum = hint.SuperChecksum
hint_of (BadChecksum what place) = hint.BadChecksum
hint_of (Lost place) = hint.Lost
hint_of (BadRevoke place) = hint.BadRevoke
hint_of (HomeOutOfRange home number homes) = hint.HomeOutOfRange homes
hint_of (NoHome home homes) = hint.NoHome homes
hint_of NeedsRecovery = hint.NeedsRecovery
hint_of NumbersSpent = hint.NumbersSpent
hint_of BlockSize = hint.BlockSize
hint_of Accounts = hint.Accounts
hint_of Geometry = hint.Geometry
hint_of (DeviceFault failure) = hint.DeviceFault failure
hint_of Memory = hint.Memory
hint_of WriteFault = hint.WriteFault

-- a fault, with this call of the disk where one of it failed that is not known yet
abbrev pub with_failure : Option Failure → CommandFault → CommandFault
with_failure failure (DeviceFault None) = DeviceFault failure
with_failure failure fault = fault

-- a fault, with this number of the system's error where a read failed of which none is known yet
abbrev pub with_code : Option ℤ → CommandFault → CommandFault
with_code code (ReadFault None) = ReadFault code
with_code code fault = fault

-- the line for a word of the command line that is not UTF-8
abbrev pub not_utf8 : List ℕ
not_utf8 = line_naming (codes "error: invalid UTF-8 was detected in one or more arguments" ∷ []) None

-- what is reported of a superblock that is refused, where a journal may have checksums
abbrev pub super_fault : CheckedSuperFault → CommandFault
super_fault (checked.Super fault) = Super fault
super_fault (checked.ChecksumType kind) = ChecksumType kind
super_fault checked.Checksum = SuperChecksum

-- what a fault of a dump is reported as
abbrev pub dump_fault : DumpFault → CommandFault
dump_fault dumping.ReadFault = ReadFault None
dump_fault dumping.WriteFault = WriteFault
dump_fault (dumping.Super fault) = super_fault fault
dump_fault (dumping.BadChecksum what place) = BadChecksum what place
dump_fault (dumping.BadRevoke place) = BadRevoke place
dump_fault dumping.Memory = Memory

-- what a fault of making a journal is reported as
abbrev pub format_fault : FormatFault → CommandFault
format_fault formatting.DeviceFault = DeviceFault None
format_fault formatting.Geometry = Geometry

-- what a fault of a recovery is reported as, of an image with this many home blocks, where that is known
abbrev pub recover_fault : Option ℕ → CheckedFault → CommandFault
recover_fault homes recovering.DeviceFault = DeviceFault None
recover_fault homes (recovering.Super fault) = super_fault fault
recover_fault homes (recovering.BadChecksum what place) = BadChecksum what place
recover_fault homes (recovering.BadRevoke place) = BadRevoke place
recover_fault homes (recovering.HomeOutOfRange home number) = HomeOutOfRange home number homes
recover_fault homes recovering.Memory = Memory

-- what a fault of a peek is reported as, into an image with this many home blocks, where that is known
abbrev pub peek_fault : Option ℕ → CheckedPeekFault → CommandFault
peek_fault homes peeking.DeviceFault = DeviceFault None
peek_fault homes (peeking.Super fault) = super_fault fault
peek_fault homes (peeking.BadChecksum what place) = BadChecksum what place
peek_fault homes (peeking.BadRevoke place) = BadRevoke place
peek_fault homes (peeking.HomeOutOfRange home) = NoHome home homes

-- what a fault of a change of a clean journal is reported as
abbrev pub change_fault : ChangeFault → CommandFault
change_fault changing.DeviceFault = DeviceFault None
change_fault (changing.Super fault) = Super fault
change_fault changing.NeedsRecovery = NeedsRecovery
