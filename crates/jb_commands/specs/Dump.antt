-- How `jb dump` ends over any reader, and what it reads.
use Rattle.std.specs.Prelude.{◌≡◌, ℕ, ℤ, List, Option, None, Some, Result, Ok, Err, codes, Bool, true, false, not, ◌&&◌}
use Rattle.std.specs.Prelude.{◌||◌, if◌then◌else◌}
use Rattle.std.specs.Str.{bytes_eq}
use Rattle.jb_dump.specs.Dumps.{Dumps}
use Rattle.jb_dump.specs.declared.dump_filter.DumpFilter.{DumpFilter}
use Rattle.jb_dump.specs.declared.fault.DumpFault.{DumpFault}
use Rattle.jb_args.specs.PlainCommand.{DumpWords}
use Rattle.jb_super.specs.declared.fault.SuperFault.TheVariants.{NoMagic}
use Rattle.jb_commands.specs.Faults.{dump_fault, with_code}
use Rattle.jb_commands.specs.ListText.{reads_list}
use Rattle.jb_commands.specs.declared.fault.CommandFault.{CommandFault}
use Rattle.jb_commands.specs.declared.fault.CommandFault.TheVariants.{CannotRead, Memory, Super}

-- the lines that the words ask for
abbrev pub choice_of : DumpWords → DumpFilter
choice_of w =
    record {
      home = w.home;
      last = w.last;
      superblock = w.superblock;
      summary = w.summary;
      drawn = w.drawn;
      checksums = w.checksums;
    }

-- how a command ends by what a dump answers: a text that was written has status 0
abbrev pub end_by : Result Unit DumpFault → Result ℕ CommandFault
end_by (Ok done) = Ok 0
end_by (Err fault) = Err (dump_fault fault)

-- the lines that a filter takes of a reader's journal were written to standard output, and the command ends by the
-- answer
abbrev pub DumpsOn : DumpFilter → Option (List ℕ) → Option (List ℕ) → Option (List ℕ) → Option (List ℕ)
    → Result ℕ CommandFault → Type 0
DumpsOn filter before after out_old out_new end =
    (dumped : Result Unit DumpFault) × (end ≡ end_by dumped) × Dumps filter before after out_old out_new dumped

-- how a command ends whose reader has this number of the system's error
abbrev pub end_saying : Option ℤ → Result ℕ CommandFault → Result ℕ CommandFault
end_saying code (Ok status) = Ok status
end_saying code (Err fault) = Err (with_code code fault)

-- the same, where a failed read has the number of the system's error, if that has one
abbrev pub DumpsSaying : DumpFilter → Option (List ℕ) → Option (List ℕ) → Option (List ℕ) → Option (List ℕ)
    → Result ℕ CommandFault → Type 0
DumpsSaying filter before after out_old out_new end =
    (told : Result ℕ CommandFault) × (code : Option ℤ) × (end ≡ end_saying code told)
    × DumpsOn filter before after out_old out_new told

-- the file of this name was not opened
abbrev pub IsUnopened : List ℕ → CommandFault → Type 0
IsUnopened name (CannotRead told code) = told.now ≡ name
IsUnopened name Memory = Unit {0}
IsUnopened name _ = ⊥

-- whether one of these says where the journal is
abbrev pub is_given : Option (List ℕ) → Option (List ℕ) → Bool
is_given None None = false
is_given None (Some extents) = true
is_given (Some journal) extents = true

-- whether the file is opened as an image: where the words say where the journal is, or its ring is to be searched
abbrev pub is_placed : DumpWords → Bool
is_placed words = words.ring || is_given words.journal words.extents

-- whether the rest of the log is searched: not where the superblock alone is shown
abbrev pub is_searched : DumpWords → Bool
is_searched words = words.ring && not (words.superblock && not words.summary)

-- whether standard input is read for a dump: for the list of extents where that is given so, and where no word says
-- where the journal is, as the journal after `-`
abbrev pub reads_dump : List ℕ → DumpWords → Bool
reads_dump name words = if is_placed words then reads_list words.extents else bytes_eq name (codes "-")

-- whether a dump ended so since no journal begins there
abbrev pub is_unbegun : Result ℕ CommandFault → Bool
is_unbegun (Err (Super NoMagic)) = true
is_unbegun _ = false
