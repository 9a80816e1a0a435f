-- In which form a command says what it reports.
use Rattle.std.specs.Prelude.{ℕ, List}
use Rattle.jb_args.specs.declared.settings.AnswerForm.{AnswerForm}
use Rattle.jb_args.specs.declared.settings.AnswerForm.TheVariants.{Json, Text}
use Rattle.jb_json.specs.Facts.{Fact}
use Rattle.jb_json.specs.Objects.{json_line}
use Rattle.jb_json.specs.Reports.{report_lines}

-- what is reported, in a form: the same facts as lines or as a JSON object
abbrev pub text_in : AnswerForm → List Fact → List ℕ
text_in Text facts = report_lines facts
text_in Json facts = json_line facts
