-- What is said of a run with words, said of their texts.
use Rattle.std.proofs.Common.{◌≡◌, ◌≢◌, ◌⊎◌, ℕ, List, [], ◌∷◌, map, Option, None, Err, ap, codes, refl}
use Rattle.std.specs.Prelude.{IfSome}
use Rattle.jb_args.specs.Command.{wanted_in}
use Rattle.jb_args.specs.Faults.{fault_kinds}
use Rattle.jb_args.specs.PlainCommand.Asked.{AsksCost}
use Rattle.jb_args.specs.declared.settings.AnswerForm.{AnswerForm}
use Rattle.jb_args.specs.declared.settings.AnswerForm.TheVariants.{Text}
use Rattle.jb_commands.specs.Outputs.{Outputs}
use Rattle.jb_commands.specs.Runs.{Closes, Runs}
use Rattle.jb_commands.specs.declared.fault.CommandFault.TheVariants.{Memory}
use Rattle.jb_commands.specs.declared.program_end.ProgramEnd.{ProgramEnd}
use Rattle.jb_tool.specs.Program.{RunsWords}
use Rattle.jb_tool.specs.RefusedWords.{RefusesWords}
use Rattle.jb_tool.specs.RunWanted.{RunsWanted}

-- words without texts are none
pub none-of : {W : Type 0} (text : W → List ℕ) (words : List W) → map text words ≡ [] → words ≡ []
none-of text [] none = refl
none-of text (word ∷ words) none = cc

-- a run with these words is one with their texts
pub runs-texts : {W : Type 0} (form : AnswerForm) (text : W → List ℕ) (words : List W)
    (input : Option (List ℕ)) (old new : Outputs) (ended : ProgramEnd)
    → (words ≡ [] → Runs form (AsksCost (codes "-")) input old new ended)
    → (words ≢ [] → fault_kinds (map text words) ≡ []
    → IfSome (wanted_in (map text words)) (λ wanted. RunsWanted form wanted input old new ended ⊎ Closes Text None (Err Memory) old new ended))
    → (words ≢ [] → (fault_kinds (map text words) ≢ []) ⊎ (wanted_in (map text words) ≡ None)
    → RefusesWords (fault_kinds (map text words)) (wanted_in (map text words)) old new ended)
    → RunsWords form (map text words) input old new ended
runs-texts form text words input old new ended bare asked refused = record {
  bare = λ none. bare (none-of text words none);
  asked = λ some. asked (λ none. some (ap (map text) none));
  refused = λ some. refused (λ none. some (ap (map text) none));
}
