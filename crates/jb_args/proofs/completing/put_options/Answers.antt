use Rattle.std.proofs.Common.{◌++◌, ◌+◌, ◌∙◌, List, ℕ, ap, append-nil, append_assoc, arith, drop, map, string_bytes, sym}
use Rattle.std.proofs.lemmas.List.{at_drop_all, at_drop_more}
use Rattle.jb_args.specs.Completions.{options_completed}
use Rattle.jb_args.specs.Rows.{rule_of_word}
use Rattle.jb_args.specs.declared.commands.word.CommandWord.{CommandWord}
use Rattle.jb_args.proofs.completing.put_options.Goals as goal

abbrev of_words : List CommandWord → List ℕ
of_words words = options_completed (map rule_of_word words)

pub loop-word-preserved : goal.loop-word-preserved
loop-word-preserved c =
    let words = c.args.words.now in
    let i = c.loop-word.word-index in
    let old = string_bytes c.loop-word.text in
    ap (λ text. text ++ of_words (drop (i + 1) words)) c.in_ok-put_option.ensures
    ∙ append_assoc old _ (of_words (drop (i + 1) words))
    ∙ ap (λ text. old ++ text) (sym (at_drop_more of_words words i _ c.loop-word-test.true))
    ∙ c.loop-word.invariant

pub returns : goal.returns
returns c =
    let old = string_bytes c.loop-word.text in
    sym (append-nil old)
    ∙ ap (λ text. old ++ text) (sym (at_drop_all of_words c.args.words.now c.loop-word.word-index (omega (arith, c.loop-word-test.false))))
    ∙ c.loop-word.invariant
