-- The rows of the table as the commands whose completions are written.
use Rattle.std.proofs.Common.{◌≡◌, List, [], ◌∷◌, ◌++◌, map, refl, ap, sym, ◌∙◌, append-nil, append_assoc}
use Rattle.clap.specs.Words.{App, with_rule}
use Rattle.jb_args.specs.App.{commands_app}
use Rattle.jb_args.specs.Completions.{shapes_of}
use Rattle.jb_args.specs.Rows.{app_of_row, rule_of_word, with_kind, with_row_words}
use Rattle.jb_args.specs.declared.commands.CommandRow.{CommandRow}
use Rattle.jb_args.specs.declared.commands.RowKind.{RowKind}
use Rattle.jb_args.specs.declared.commands.RowKind.TheVariants as row
use Rattle.jb_args.specs.declared.commands.command_name.CommandName.TheVariants.{Cat, Check, Completions, Cost, Dump, Format, Load, Plan, Recover, Renumber, Widen}
use Rattle.jb_args.specs.declared.commands.word.CommandWord.{CommandWord}

-- the words of a row leave the name of its command
words-name : (a : App) (words : List CommandWord) → (with_row_words a words).top.name ≡ a.top.name
words-name a [] = refl
words-name a (word ∷ words) = words-name (with_rule a (rule_of_word word)) words

-- the words of a row are the rules of its command, after those that it had
words-rules : (a : App) (words : List CommandWord) → (with_row_words a words).top.rules ≡ a.top.rules ++ map rule_of_word words
words-rules a [] = sym (append-nil a.top.rules)
words-rules a (word ∷ words) =
    words-rules (with_rule a (rule_of_word word)) words
    ∙ append_assoc a.top.rules (rule_of_word word ∷ []) (map rule_of_word words)

kind-name : (kind : RowKind) (a : App) → (with_kind kind a).top.name ≡ a.top.name
kind-name row.Command a = refl
kind-name row.Topic a = refl

kind-rules : (kind : RowKind) (a : App) → (with_kind kind a).top.rules ≡ a.top.rules
kind-rules row.Command a = refl
kind-rules row.Topic a = refl

-- the name of a row is that of its command
pub row-name : (r : CommandRow) → (app_of_row r).top.name ≡ r.name.now
row-name r = words-name _ r.words.now ∙ kind-name r.kind _

-- and its words are the rules
pub row-rules : (r : CommandRow) → (app_of_row r).top.rules ≡ map rule_of_word r.words.now
row-rules r = words-rules _ r.words.now ∙ ap (λ rules. rules ++ map rule_of_word r.words.now) (kind-rules r.kind _)

-- the commands of the table are those of the command line
pub commands-named : shapes_of (Cost ∷ Plan ∷ Check ∷ Dump ∷ Cat ∷ Format ∷ Load ∷ Recover ∷ Renumber ∷ Widen ∷ Completions ∷ [])
    ≡ commands_app.subs
commands-named = refl
