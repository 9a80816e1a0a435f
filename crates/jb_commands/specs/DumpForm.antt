-- How `jb dump` ends in either form.
use Rattle.std.specs.Prelude.{◌≡◌, ◌⊎◌, ℕ, List, [], Option, Some, Result, Ok, Err, false}
use Rattle.std.specs.Io.KnownBytes.{Appends}
use Rattle.jb_args.specs.PlainCommand.{DumpWords}
use Rattle.jb_args.specs.declared.settings.AnswerForm.{AnswerForm}
use Rattle.jb_args.specs.declared.settings.AnswerForm.TheVariants.{Json, Text}
use Rattle.jb_disk.specs.declared.start.Start.{Ghosts as Starts}
use Rattle.jb_json.specs.Entries.{entries_text}
use Rattle.jb_text.specs.Puts.{PutsPart}
use Rattle.jb_commands.specs.DumpPlace.{EndsOfDump}
use Rattle.jb_commands.specs.declared.fault.CommandFault.{CommandFault}
use Rattle.jb_commands.specs.declared.fault.CommandFault.TheVariants.{Memory, WriteFault}

-- the words of a dump, without those for a picture
abbrev pub undrawn : DumpWords → DumpWords
undrawn words =
    record {
      home = words.home;
      last = words.last;
      superblock = words.superblock;
      summary = words.summary;
      drawn = false;
      journal = words.journal;
      extents = words.extents;
      checksums = words.checksums;
      ring = words.ring;
    }

-- how a dump ends whose text is put into memory: what cannot be written there has no memory
abbrev pub in_memory : Result ℕ CommandFault → Result ℕ CommandFault
in_memory (Ok status) = Ok status
in_memory (Err WriteFault) = Err Memory
in_memory (Err fault) = Err fault

-- the lines of a dump's text are on standard output, each as an object, and it ends as the dump; or standard output
-- failed part of the way
abbrev pub TellsEntries : List ℕ → Result ℕ CommandFault → Option (List ℕ) → Option (List ℕ) → Result ℕ CommandFault
    → Type 0
TellsEntries text done out_old out_new end =
    (Appends out_old out_new (entries_text text) × (end ≡ in_memory done))
    ⊎ (PutsPart out_old out_new (entries_text text) × (end ≡ Err WriteFault))

-- the journal after this name was dumped, in this form: in JSON each line of the text that the dump has, and nothing
-- is drawn
abbrev pub EndsOfDumpIn : {S T : Type 0} → Starts S → Starts T → AnswerForm → DumpWords → List ℕ → Option (List ℕ)
    → Option (List ℕ) → Option (List ℕ) → Result ℕ CommandFault → Type 0
EndsOfDumpIn start other Text words name before out_old out_new end =
    EndsOfDump start other words name before out_old out_new end
EndsOfDumpIn start other Json words name before out_old out_new end =
    (text : List ℕ) × (done : Result ℕ CommandFault)
    × EndsOfDump start other (undrawn words) name before (Some []) (Some text) done
    × TellsEntries text done out_old out_new end
