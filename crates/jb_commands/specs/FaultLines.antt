-- The parts of a fault's line: its words, its numbers, and the name of a file.
use Rattle.std.specs.Prelude.{ℕ, List, [], ◌∷◌, Option, None, Some, codes, decimal}
use Rattle.jb_commands.specs.Lines.{PairNames, image_named, journal_named}
use Rattle.jb_commands.specs.declared.fault.CommandFault.{CommandFault}
use Rattle.jb_commands.specs.declared.fault.CommandFault.TheVariants.{CannotRead, InUse, MountsUnknown, NoLinks}
use Rattle.jb_commands.specs.declared.fault.CommandFault.TheVariants.{SameFile, CannotMake, TooLong, Super}
use Rattle.jb_commands.specs.declared.fault.CommandFault.TheVariants.{ChecksumType, SuperChecksum, BadChecksum}
use Rattle.jb_commands.specs.declared.fault.CommandFault.TheVariants.{JournalLength, FileSystem, Lost, BadRevoke}
use Rattle.jb_commands.specs.declared.fault.CommandFault.TheVariants.{HomeOutOfRange, NoHome, NeedsRecovery}
use Rattle.jb_commands.specs.declared.fault.CommandFault.TheVariants.{NumbersSpent}
use Rattle.jb_commands.specs.declared.streams.fault_line.Numbers.{Numbers}
use Rattle.jb_commands.specs.declared.streams.fault_line.Numbers.TheVariants as numbers

-- what is said of a fault: its name, and its numbers after it, each with a space before it
abbrev pub fault_parts : List ℕ → Numbers → List (List ℕ)
fault_parts words numbers.None = words ∷ []
fault_parts words (numbers.One number) = words ∷ codes " " ∷ decimal number ∷ []
fault_parts words (numbers.Two one two) = words ∷ codes " " ∷ decimal one ∷ codes " " ∷ decimal two ∷ []

-- what a line has before the name of a file: whose it is, and what is said of the fault
abbrev pub parts_of : List ℕ → Numbers → List (List ℕ)
parts_of words numbers = codes "jb: " ∷ fault_parts words numbers

-- the name at the end of a fault's line: of the file that it is about, where that is known
abbrev pub named : Option PairNames → CommandFault → Option (List ℕ)
named names (CannotRead name code) = Some name.now
named names (InUse name holder) = Some name.now
named names (MountsUnknown name) = Some name.now
named names (NoLinks name) = Some name.now
named names (SameFile name) = Some name.now
named names (CannotMake name code) = Some name.now
named names (TooLong name) = Some name.now
named names (Super fault) = journal_named names
named names (JournalLength blocks maxlen) = journal_named names
named names (ChecksumType kind) = journal_named names
named names SuperChecksum = journal_named names
named names (BadChecksum what place) = journal_named names
named names (Lost place) = journal_named names
named names (BadRevoke place) = journal_named names
named names NeedsRecovery = journal_named names
named names NumbersSpent = journal_named names
named names (FileSystem fault) = image_named names
named names (HomeOutOfRange home number homes) = image_named names
named names (NoHome home homes) = image_named names
named names _ = None
