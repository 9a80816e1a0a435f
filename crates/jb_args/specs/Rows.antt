-- The table of the commands, in the words of the command line of `jb`.
use Rattle.std.specs.Prelude.{true, List, [], ◌∷◌, Option, Some, codes}
use Rattle.clap.specs.Words.{App, Rule, Text, new_app, new_rule, with_rule, with_subcommand}
use Rattle.clap.specs.declared.builder.value_parser.ValueParser.{ValueParser}
use Rattle.clap.specs.declared.builder.value_parser.ValueParser.TheVariants.{Unsigned}
use Rattle.jb_args.specs.App as app
use Rattle.jb_args.specs.declared.commands.command_name.CommandName.{CommandName}
use Rattle.jb_args.specs.declared.commands.command_name.CommandName.TheVariants as name
use Rattle.jb_args.specs.declared.commands.word.WordKind.{WordKind}
use Rattle.jb_args.specs.declared.commands.word.WordKind.TheVariants as kind
use Rattle.jb_args.specs.declared.commands.word.CommandWord.{CommandWord}
use Rattle.jb_args.specs.declared.commands.CommandRow.{CommandRow}
use Rattle.jb_args.specs.declared.commands.RowKind.{RowKind}
use Rattle.jb_args.specs.declared.commands.RowKind.TheVariants as row

-- a value that is a number of 64 bits
abbrev pub number_parser : Option ValueParser
number_parser = Some (Unsigned 0 18446744073709551615)

-- the rule of a word or an option of this name and kind
abbrev pub rule_of_kind : Text → WordKind → Rule
rule_of_kind name kind.Word = app.required_word name
rule_of_kind name kind.NumberWord = app.number_word name
rule_of_kind name (kind.Text value) = record (new_rule name) { long = Some name; value_names = 1 }
rule_of_kind name (kind.TextOr value text) =
    record (new_rule name) { long = Some name; value_names = 1; defaults = text.now ∷ [] }
rule_of_kind name kind.Number = app.number_option name
rule_of_kind name kind.RequiredNumber = app.required_number name
rule_of_kind name (kind.NumberOr value text) = app.number_or name text.now
rule_of_kind name kind.Count = record app.count_option { id = name }
rule_of_kind name kind.Flag = app.flag name

-- the rule of a word of the table
abbrev pub rule_of_word : CommandWord → Rule
rule_of_word word = rule_of_kind word.name.now word.kind

-- a command with these words of the table, one after the other
abbrev pub with_row_words : App → List CommandWord → App
with_row_words command [] = command
with_row_words command (word ∷ words) = with_row_words (with_rule command (rule_of_word word)) words

-- a command as one of this kind: a topic of the help is answered by its help, as it takes no words
abbrev pub with_kind : RowKind → App → App
with_kind row.Command command = command
with_kind row.Topic command = record command { top = record command.top { arg_required_else_help = true } }

-- a row as a command
abbrev pub app_of_row : CommandRow → App
app_of_row command = with_row_words (with_kind command.kind (new_app command.name.now)) command.words.now

-- the command of this name
abbrev pub app_named : CommandName → App
app_named name.Cost = app.file_app (codes "cost")
app_named name.Plan = app.file_app (codes "plan")
app_named name.Check = app.check_app
app_named name.Dump = app.dump_app
app_named name.Cat = app.cat_app
app_named name.Format = app.format_app
app_named name.Load = app.load_app
app_named name.Recover = app.recover_app
app_named name.Renumber = app.change_app (codes "renumber")
app_named name.Widen = app.change_app (codes "widen")
app_named name.Completions = app.completions_app
app_named name.Files = app.topic_app (codes "files")
app_named name.Locks = app.topic_app (codes "locks")
app_named name.Settings = app.topic_app (codes "settings")
app_named name.Statuses = app.topic_app (codes "statuses")
app_named name.Diagnostics = app.topic_app (codes "diagnostics")

-- a command line with these commands, one after the other
abbrev pub with_commands : App → List CommandName → App
with_commands line [] = line
with_commands line (name ∷ names) = with_commands (with_subcommand line (app_named name).top) names
