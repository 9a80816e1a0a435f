-- How a run ends whose words clap refuses.
use Rattle.std.specs.Prelude.{◌≡◌, ◌≢◌, ◌⊎◌, [], Option, None, Err}
use Rattle.jb_text.specs.Puts.{PutsPart}
use Rattle.jb_args.specs.Faults.{HasKind, Kinds, kind_of}
use Rattle.jb_args.specs.Command.{Wanted}
use Rattle.jb_args.specs.declared.Error.{Error}
use Rattle.jb_args.specs.declared.settings.AnswerForm.TheVariants.{Text}
use Rattle.jb_args.specs.declared.ErrorKind.{ErrorKind}
use Rattle.jb_args.specs.declared.ErrorKind.TheVariants.{DisplayHelp, DisplayVersion, OutOfMemory}
use Rattle.jb_commands.specs.Ends.{of_fault, with_status}
use Rattle.jb_commands.specs.Runs.{Closes}
use Rattle.jb_commands.specs.Outputs.{Outputs}
use Rattle.jb_commands.specs.Faults.{line_of}
use Rattle.jb_commands.specs.declared.program_end.ProgramEnd.{ProgramEnd}
use Rattle.jb_commands.specs.declared.fault.CommandFault.TheVariants.{Memory, WriteFault}

-- how a run ends whose words clap refuses for this reason: help and the version are for standard output, and all else
-- of clap's texts for standard error
pub record EndsRefused (kind : ErrorKind) (old new : Outputs) (ended : ProgramEnd) : Type 0 where
  pub memory : kind ≡ OutOfMemory → Closes Text None (Err Memory) old new ended
  pub shown : (kind ≡ DisplayHelp) ⊎ (kind ≡ DisplayVersion)
      → ((ended ≡ with_status 0) × (new.err ≡ old.err))
      ⊎ ((ended ≡ of_fault WriteFault) × PutsPart old.err new.err (line_of None WriteFault))
  pub mistake : kind ≢ OutOfMemory → kind ≢ DisplayHelp → kind ≢ DisplayVersion
      → (ended ≡ with_status 2) × (new.out ≡ old.out)

-- the words were refused by one of the kinds of their first fault, or where memory ran out, or as they ask for no
-- command
abbrev pub RefusesWords : Kinds → Option Wanted → Outputs → Outputs → ProgramEnd → Type 0
RefusesWords kinds wanted old new ended =
    (error : Error) × (HasKind kinds error ⊎ ((kinds ≡ []) × (wanted ≡ None)))
    × EndsRefused (kind_of error) old new ended
