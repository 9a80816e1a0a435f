-- The scripts by which a shell completes the words of `jb`.
use Rattle.std.specs.Prelude.{ℕ, List, [], ◌∷◌, ◌++◌, map, Option, Some, None, codes, if◌then◌else◌}
use Rattle.std.specs.Str.{bytes_eq}
use Rattle.clap.specs.Words.{Rule, Shape, Text}
use Rattle.jb_text.specs.TextParts.{spelled}
use Rattle.jb_args.specs.App.{commands_app}
use Rattle.jb_args.specs.Rows.{app_named}
use Rattle.jb_args.specs.declared.commands.command_name.CommandName.{CommandName}
use Rattle.jb_args.specs.declared.completing.Shell.{Shell}
use Rattle.jb_args.specs.declared.completing.Shell.TheVariants.{Bash, Fish, Zsh}
use Rattle.jb_args.specs.declared.completing.ShellForm.{ShellForm}

-- the shell of this name
abbrev pub shell_named : Text → Option Shell
shell_named name =
    if bytes_eq name (codes "bash") then Some Bash
    else if bytes_eq name (codes "zsh") then Some Zsh
    else if bytes_eq name (codes "fish") then Some Fish
    else None

-- what a script has around the words of the table: before the names of the commands and after them; before the name of
-- a command at its line, between it and the options, and after these; after all
pub record ScriptForm : Type 0 where
  pub head : Text
  pub middle : Text
  pub before : Text
  pub between : Text
  pub after : Text
  pub tail : Text

-- the form as the program has it
abbrev pub form_said : ShellForm → ScriptForm
form_said form = record {
  head = form.head.now;
  middle = form.middle.now;
  before = form.before.now;
  between = form.between.now;
  after = form.after.now;
  tail = form.tail.now;
}

-- an option after a space: its name after two hyphens, or its letter after one; of a word that is none nothing
abbrev pub option_by : Option Text → Option ℕ → Text
option_by (Some name) short = codes " --" ++ name
option_by None (Some letter) = codes " -" ++ letter ∷ []
option_by None None = []

-- the same of an argument of the command line
abbrev pub option_completed : Rule → Text
option_completed rule = option_by rule.long rule.short

-- the options of a command
abbrev pub options_completed : List Rule → Text
options_completed rules = spelled (map option_completed rules)

-- the commands of these names
abbrev pub shapes_of : List CommandName → List Shape
shapes_of names = map (λ name. (app_named name).top) names

-- the names of the commands, each after a space
abbrev pub names_completed : List Shape → Text
names_completed commands = spelled (map (λ (command : Shape). 32 ∷ command.name) commands)

-- the line of a command: its name and its options
abbrev pub command_completed : ScriptForm → Shape → Text
command_completed form command =
    spelled (form.before ∷ command.name ∷ form.between ∷ options_completed command.rules ∷ form.after ∷ [])

-- the lines of the commands
abbrev pub commands_completed : ScriptForm → List Shape → Text
commands_completed form commands = spelled (map (command_completed form) commands)

-- the script of this form: the names of the commands of `jb`, and their lines
abbrev pub completions_of : ScriptForm → Text
completions_of form =
    spelled (form.head ∷ names_completed commands_app.subs ∷ form.middle ∷ commands_completed form commands_app.subs
    ∷ form.tail ∷ [])
