use Rattle.std.proofs.Common.{◌+◌, ◌∙◌, ◌∷◌, ap, drop, map, sym}
use Rattle.std.proofs.lemmas.List.{at_drop_more}
use Rattle.jb_args.specs.Settings.{settings_in}
use Rattle.jb_args.proofs.SettingWords.{end-sets, word-sets}
use Rattle.jb_args.proofs.settings.words.settings_in.Goals as goal

pub loop-word-preserved : goal.loop-word-preserved
loop-word-preserved g c =
    let text = g.S.AsStr.text in
    let words = c.args.words.now in
    let i = c.loop-word.word-index in
    let given = c.loop-word.settings in
    let rest = map text (drop (i + 1) words) in
    let first = c.as_str-text.ensures ∙ ap text c.word-item.is in
    ap (λ s. settings_in s rest) c.with_word-settings.ensures
    ∙ sym (word-sets given c.as_str-text.result.now rest (sym c.eq.ensures ∙ c.if-eq.false))
    ∙ ap (λ word. settings_in given (word ∷ rest)) first
    ∙ sym (at_drop_more (λ left. settings_in given (map text left)) words i c.word-item.result c.loop-word-test.true)
    ∙ c.loop-word.invariant

pub returns-then-eq : goal.returns-then-eq
returns-then-eq g c =
    let text = g.S.AsStr.text in
    let words = c.args.words.now in
    let i = c.loop-word.word-index in
    let given = c.loop-word.settings in
    let rest = map text (drop (i + 1) words) in
    let first = c.as_str-text.ensures ∙ ap text c.word-item.is in
    sym (end-sets given c.as_str-text.result.now rest (sym c.eq.ensures ∙ c.if-eq.true))
    ∙ ap (λ word. settings_in given (word ∷ rest)) first
    ∙ sym (at_drop_more (λ left. settings_in given (map text left)) words i c.word-item.result c.loop-word-test.true)
    ∙ c.loop-word.invariant
