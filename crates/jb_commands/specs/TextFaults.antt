-- What is said of a fault of a text, a queue's or a certificate's.
use Rattle.std.specs.Prelude.{ℕ, List, [], ◌∷◌, ◌++◌, Option, None, Some, codes}
use Rattle.jb_text.specs.TextParts.{spelled}
use Rattle.jb_json.specs.Objects.{json_line}
use Rattle.jb_args.specs.Advice.{advice_of}
use Rattle.jb_args.specs.declared.hint.Hint.{Hint}
use Rattle.jb_args.specs.declared.settings.AnswerForm.{AnswerForm}
use Rattle.jb_args.specs.declared.settings.AnswerForm.TheVariants.{Json, Text}
use Rattle.jb_commands.specs.AnswerSaid.{Said}
use Rattle.jb_commands.specs.FaultReports.{facts_with}

-- what is said of a fault of this name, with these numbers, in these parts, and with this advice: in text those parts,
-- and in JSON all of it
abbrev pub text_fault_text : AnswerForm → List ℕ → List ℕ → List (List ℕ) → Hint → List ℕ
text_fault_text Text name ns reason hint = codes "jb: " ++ (spelled reason ++ codes "\n")
text_fault_text Json name ns reason hint =
    json_line (facts_with name ns (spelled reason) None (spelled (advice_of hint ∷ [])) None)

-- the same with the exit status and the hint, on standard error
abbrev pub text_fault : AnswerForm → List ℕ → List ℕ → List (List ℕ) → Hint → Said
text_fault form name ns reason hint =
    record { status = 2; out = []; err = text_fault_text form name ns reason hint; hint = Some hint }
