-- What is known of the two outputs once a command has said what it had to say.
use Rattle.std.specs.Prelude.{◌≡◌, ◌≢◌, ℕ, List, [], Option, Result, Ok, Err}
use Rattle.std.specs.Io.KnownBytes.{Appends}
use Rattle.jb_commands.specs.AnswerSaid.{Said}
use Rattle.jb_text.specs.Puts.{PutsPart}
use Rattle.jb_commands.specs.Ends.{with_status}
use Rattle.jb_commands.specs.declared.program_end.ProgramEnd.{ProgramEnd}
use Rattle.jb_commands.specs.declared.fault.CommandFault.{CommandFault}
use Rattle.jb_commands.specs.declared.fault.CommandFault.TheVariants.{Memory, WriteFault}

-- the bytes that standard output and standard error hold, each where they are known
pub record Outputs : Type 0 where
  pub out : Option (List ℕ)
  pub err : Option (List ℕ)

-- all of it is on standard output, and on standard error as much as that took, and the end has its status and its hint;
-- or standard output, for which there was something, failed part of the way
abbrev pub Tells : Said → Outputs → Outputs → Result ProgramEnd CommandFault → Type 0
Tells words old new (Ok ended) =
    (ended ≡ record { status = words.status; hint = words.hint }) × Appends old.out new.out words.out
    × PutsPart old.err new.err words.err
Tells words old new (Err WriteFault) = (words.out ≢ []) × PutsPart old.out new.out words.out × (new.err ≡ old.err)
Tells words old new (Err _) = ⊥

-- there was no memory for what was to be said
abbrev pub TellsNone : Outputs → Outputs → Result ProgramEnd CommandFault → Type 0
TellsNone old new end = (end ≡ Err Memory) × (new ≡ old)

-- how a command ends that only writes, by what the writing answers
abbrev pub line_end : {F : Type 0} → Result ProgramEnd F → Result ProgramEnd CommandFault
line_end (Ok ended) = Ok ended
line_end (Err fault) = Err WriteFault

-- the line is on standard output, with status 0; or standard output failed part of the way
abbrev pub TellsLine : List ℕ → Option (List ℕ) → Option (List ℕ) → Result ProgramEnd CommandFault → Type 0
TellsLine line out_old out_new (Ok ended) = (ended ≡ with_status 0) × Appends out_old out_new line
TellsLine line out_old out_new (Err WriteFault) = PutsPart out_old out_new line
TellsLine line out_old out_new (Err _) = ⊥
