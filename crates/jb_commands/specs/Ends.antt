-- How a run of the program ends.
use Rattle.std.specs.Prelude.{ℕ, ◌==◌, if◌then◌else◌, Option, None, Some}
use Rattle.jb_args.specs.Advice.{finer_of}
use Rattle.jb_args.specs.declared.hint.Hint.{Hint}
use Rattle.jb_args.specs.declared.settings.Statuses.{Statuses}
use Rattle.jb_args.specs.declared.settings.Statuses.TheVariants.{Few, Finer}
use Rattle.jb_commands.specs.Faults.{hint_of, status_of}
use Rattle.jb_commands.specs.declared.program_end.ProgramEnd.{ProgramEnd}
use Rattle.jb_commands.specs.declared.fault.CommandFault.{CommandFault}

-- an end with this status and no second line
abbrev pub with_status : ℕ → ProgramEnd
with_status status = record { status = status; hint = None }

-- the end of a command that ended without an answer, for this
abbrev pub of_fault : CommandFault → ProgramEnd
of_fault fault = record { status = status_of fault; hint = Some (hint_of fault) }

-- the table's finer status of a hint, in place of 1
abbrev pub finer_status : ℕ → Option Hint → ℕ
finer_status status None = status
finer_status status (Some hint) = if status == 1 then finer_of hint else status

-- the exit status of the program: 0, 1 or 2, or a finer one in place of 1
abbrev pub exit_status : Statuses → ProgramEnd → ℕ
exit_status Few ended = ended.status
exit_status Finer ended = finer_status ended.status ended.hint
