-- How the whole program ends.
use Rattle.std.specs.Prelude.{◌≡◌, ◌≢◌, ◌⊎◌, ℕ, Bool, true, false, List, [], Option, Some, None, Result}
use Rattle.std.specs.Prelude.{Ok, Err, IfSome, codes}
use Rattle.std.specs.declared.io.ErrorKind.{ErrorKind}
use Rattle.std.specs.declared.io.ErrorKind.TheVariants.{InvalidData}
use Rattle.jb_args.specs.Advice.{SystemSaid, hint_line, reason_line}
use Rattle.jb_args.specs.declared.hint.Hint.{Hint}
use Rattle.jb_args.specs.declared.settings.AnswerForm.{AnswerForm}
use Rattle.jb_args.specs.declared.settings.AnswerForm.TheVariants.{Text}
use Rattle.jb_args.specs.Settings.{second_part, settings_in, words_left}
use Rattle.jb_args.specs.declared.settings.SecondPart.{SecondPart}
use Rattle.jb_args.specs.declared.settings.SecondPart.TheVariants as parts
use Rattle.jb_args.specs.declared.settings.Settings.{Settings}
use Rattle.jb_text.specs.Puts.{PutsPart}
use Rattle.jb_args.specs.Faults.{fault_kinds}
use Rattle.jb_args.specs.PlainCommand.Asked.{AsksCost}
use Rattle.jb_args.specs.Command.{wanted_in}
use Rattle.jb_commands.specs.Ends.{exit_status, of_fault, with_status}
use Rattle.jb_commands.specs.Faults.{line_of, not_utf8}
use Rattle.jb_commands.specs.Runs.{Closes, Runs}
use Rattle.jb_commands.specs.Outputs.{Outputs}
use Rattle.jb_commands.specs.declared.program_end.ProgramEnd.{ProgramEnd}
use Rattle.jb_commands.specs.declared.fault.CommandFault.TheVariants.{Memory}
use Rattle.jb_tool.specs.RefusedWords.{RefusesWords}
use Rattle.jb_tool.specs.RunWanted.{RunsWanted}

-- what `run` says of a run with these words, in this form; a fault of the words themselves is text in either
pub record RunsWords (form : AnswerForm) (words : List (List ℕ)) (input : Option (List ℕ)) (old new : Outputs)
    (ended : ProgramEnd) : Type 0 where
  pub bare : words ≡ [] → Runs form (AsksCost (codes "-")) input old new ended
  pub asked : words ≢ [] → fault_kinds words ≡ []
      → IfSome (wanted_in words) (λ wanted. RunsWanted form wanted input old new ended
      ⊎ Closes Text None (Err Memory) old new ended)
  pub refused : words ≢ [] → (fault_kinds words ≢ []) ⊎ (wanted_in words ≡ None)
      → RefusesWords (fault_kinds words) (wanted_in words) old new ended

-- the help is on standard error, with status 2, or there was no memory for it
abbrev pub Helps : Option (List ℕ) → Option (List ℕ) → ProgramEnd → Type 0
Helps err_old err_new ended =
    (ended ≡ with_status 2) ⊎ ((ended ≡ of_fault Memory) × PutsPart err_old err_new (line_of None Memory))

-- what the program answers to words that are no settings: at a terminal its help where there are none, and else a run
-- with them
pub record AnswersWords (form : AnswerForm) (words : List (List ℕ)) (at_terminal : Bool) (input : Option (List ℕ))
    (old new : Outputs)
    (ended : ProgramEnd) : Type 0 where
  pub help : words ≡ [] → at_terminal ≡ true → Helps old.err new.err ended × (new.out ≡ old.out)
  pub run : (words ≢ []) ⊎ (at_terminal ≡ false) → RunsWords form words input old new ended

-- what it answers to all its words: what it answers to those that are left without the settings, or there was no memory
-- for these
abbrev pub AnswersGiven : AnswerForm → List (List ℕ) → Bool → Option (List ℕ) → Outputs → Outputs → ProgramEnd → Type 0
AnswersGiven form words at_terminal input old new ended =
    AnswersWords form (words_left words) at_terminal input old new ended ⊎ Closes Text None (Err Memory) old new ended

-- the settings that were given, as the words change them, where the system has handed them over
abbrev pub settings_given : {W K : Type 0} → (W → List (List ℕ)) → Settings → Result W K → Settings
settings_given texts given (Ok words) = settings_in given (texts words)
settings_given texts given (Err kind) = given

-- what it answers where the system has not handed its words over: a word that is no text, or no memory
pub record RefusesKind (kind : ErrorKind) (old new : Outputs) (ended : ProgramEnd) : Type 0 where
  pub text : kind ≡ InvalidData → (ended ≡ with_status 2) × PutsPart old.err new.err not_utf8
  pub memory : kind ≢ InvalidData → (ended ≡ of_fault Memory) × PutsPart old.err new.err (line_of None Memory)
  pub out : new.out ≡ old.out

-- so much of a second line follows an end that has a hint, as far as standard error took it; nothing follows another
-- end
abbrev pub Advises : SecondPart → Option Hint → Option (List ℕ) → Option (List ℕ) → Type 0
Advises parts.Whole (Some hint) err_old err_new = (said : SystemSaid) × PutsPart err_old err_new (hint_line said hint)
Advises parts.Reason (Some hint) err_old err_new =
    (said : SystemSaid) × PutsPart err_old err_new (reason_line said hint)
Advises parts.Nothing (Some hint) err_old err_new = err_new ≡ err_old
Advises part None err_old err_new = err_new ≡ err_old

-- the program's status and outputs by what it answered: the status is the answer's, or a finer one where the settings
-- ask for it, and so much of the second line follows as they and a terminal ask for
abbrev pub EndsProgram : Settings → Bool → (Outputs → Outputs → ProgramEnd → Type 0) → Outputs → Outputs → ℕ → Type 0
EndsProgram settings on_terminal Answers old new status =
    (ended : ProgramEnd) × (mid : Outputs) × Answers old mid ended × (status ≡ exit_status settings.statuses ended)
    × (new.out ≡ mid.out) × Advises (second_part settings on_terminal) ended.hint mid.err new.err
