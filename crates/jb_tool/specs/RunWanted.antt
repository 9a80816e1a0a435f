-- What a whole run did, by what the words ask for.
use Rattle.std.specs.Prelude.{◌≡◌, ◌⊎◌, ℕ, Bool, false, List, Option, None, Some, Result, Err}
use Rattle.jb_args.specs.Command.{Wanted}
use Rattle.jb_args.specs.declared.settings.AnswerForm.{AnswerForm}
use Rattle.jb_args.specs.Command.Wanted.{WantsCompletions, WantsLoad, WantsPlain}
use Rattle.jb_args.specs.Completions.{ScriptForm, completions_of, shell_named}
use Rattle.jb_args.specs.declared.completing.Shell.{Shell}
use Rattle.jb_args.specs.declared.option_name.OptionName.TheVariants.{Shell as ShellName}
use Rattle.jb_commands.specs.ListText.{reads_list}
use Rattle.jb_commands.specs.Runs.{Closes, Runs, reads_input}
use Rattle.jb_commands.specs.Outputs.{Outputs, TellsLine}
use Rattle.jb_commands.specs.declared.fault.CommandFault.{CommandFault}
use Rattle.jb_commands.specs.declared.fault.CommandFault.TheVariants.{BadOption, Memory}
use Rattle.jb_commands.specs.declared.program_end.ProgramEnd.{ProgramEnd}
use Rattle.jb_tool.specs.Load.{RunsLoad}

-- whether the command that is wanted reads standard input
abbrev pub wants_input : Wanted → Bool
wants_input (WantsPlain asked) = reads_input asked
wants_input (WantsLoad load) = reads_list load.extents
wants_input (WantsCompletions shell) = false

-- the script of a shell is on standard output, with status 0, or that failed part of the way, or there was no memory
-- for it; of another word it is an option that is bad
abbrev pub EndsOfCompletions : Option Shell → Option (List ℕ) → Option (List ℕ) → Result ProgramEnd CommandFault
    → Type 0
EndsOfCompletions (Some shell) out_old out_new end =
    ((form : ScriptForm) × TellsLine (completions_of form) out_old out_new end)
    ⊎ ((end ≡ Err Memory) × (out_new ≡ out_old))
EndsOfCompletions None out_old out_new end = (end ≡ Err (BadOption ShellName)) × (out_new ≡ out_old)

-- the whole run of `completions`: how it ends, and its line where it ends without the script
abbrev pub RunsCompletions : AnswerForm → List ℕ → Outputs → Outputs → ProgramEnd → Type 0
RunsCompletions form name old new ended =
    (end : Result ProgramEnd CommandFault) × (mid : Outputs)
    × EndsOfCompletions (shell_named name) old.out mid.out end × (mid.err ≡ old.err)
    × Closes form None end mid new ended

-- the whole run of the command that is wanted, in this form
abbrev pub RunsWanted : AnswerForm → Wanted → Option (List ℕ) → Outputs → Outputs → ProgramEnd → Type 0
RunsWanted form (WantsPlain asked) input old new ended = Runs form asked input old new ended
RunsWanted form (WantsLoad load) input old new ended = RunsLoad form load input old new ended
RunsWanted form (WantsCompletions shell) input old new ended = RunsCompletions form shell old new ended
