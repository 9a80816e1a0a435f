-- Words and commands that are added one after the other.
use Rattle.std.proofs.Common.{◌≡◌, ℕ, ◌+◌, ◌<◌, List, length, get_or, drop, add-one, ap, sym}
use Rattle.std.proofs.Math.Seq.{drop-cons}
use Rattle.clap.specs.Words.{App, with_rule, with_subcommand}
use Rattle.jb_args.specs.Rows.{app_named, rule_of_word, with_commands, with_row_words}
use Rattle.jb_args.specs.declared.commands.command_name.CommandName.{CommandName}
use Rattle.jb_args.specs.declared.commands.word.CommandWord.{CommandWord}

-- one word more is the next of those that are left
pub next_word : (a : App) (words : List CommandWord) (i : ℕ) (word : CommandWord) → i < length words
    → with_row_words (with_rule a (rule_of_word (get_or words i word))) (drop (i + 1) words) ≡ with_row_words a (drop i words)
next_word a words i word h = rw add-one (ap (with_row_words a) (sym (drop-cons words i word h)))

-- one command more is the next of those that are left
pub next_command : (a : App) (names : List CommandName) (i : ℕ) (name : CommandName) → i < length names
    → with_commands (with_subcommand a (app_named (get_or names i name)).top) (drop (i + 1) names) ≡ with_commands a (drop i names)
next_command a names i name h = rw add-one (ap (with_commands a) (sym (drop-cons names i name h)))
