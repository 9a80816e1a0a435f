use Rattle.std.proofs.Common.{◌≡◌, ◌++◌, ◌+◌, ◌∙◌, ◌∷◌, [], List, ℕ, Bor, ap, append_assoc, append-nil, arith, drop, length, map, sym, ◌≤◌}
use Rattle.std.proofs.lemmas.List.{at_drop_all, at_drop_more, map-append}
use Rattle.jb_args.proofs.SettingWords.{kept_if, left_where, none-left, word-left-by}
use Rattle.jb_args.proofs.settings.words.words_left.Goals.{then-stays+in_ok-push, else-stays}
use Rattle.jb_args.proofs.settings.words.words_left.Goals as goal

abbrev now : Bor (List ℕ) → List ℕ
now word = word.now

pub loop-word-preserved : goal.loop-word-preserved
loop-word-preserved g c =
    let text = g.S.AsStr.text in
    let words = c.args.words.now in
    let i = c.loop-word.word-index in
    let old = c.loop-word.may_set in
    let word = c.as_str-text.result.now in
    let may = c.sets_on-may_set.result in
    let rest = map text (drop (i + 1) words) in
    let before = map now c.loop-word.left.items in
    let first = c.as_str-text.ensures ∙ ap text c.word-item.is in
    let kept : map now c.if-stays.left.items ≡ before ++ kept_if c.stays.result word =
    elim c.if-stays.branch [
      | then-stays+in_ok-push w ↦
          ap (λ left. map now left.items) w.left-is ∙ ap (map now) w.in_ok-push.ensures.items
          ∙ map-append now c.loop-word.left.items (c.as_str-text.result ∷ [])
          ∙ ap (λ stays. before ++ kept_if stays word) (sym w.if-stays.true)
      | else-stays w ↦
          ap (λ left. map now left.items) w.left-is ∙ sym (append-nil before)
          ∙ ap (λ stays. before ++ kept_if stays word) (sym w.if-stays.false)
    ] in
    ap (λ left. left ++ left_where may rest) kept
    ∙ append_assoc before (kept_if c.stays.result word) (left_where may rest)
    ∙ ap (λ left. before ++ left) (sym (word-left-by old word rest may c.stays.result c.sets_on-may_set.ensures c.stays.ensures))
    ∙ ap (λ word. before ++ left_where old (word ∷ rest)) first
    ∙ ap (λ left. before ++ left) (sym (at_drop_more (λ left. left_where old (map text left)) words i c.word-item.result c.loop-word-test.true))
    ∙ c.loop-word.invariant

pub returns : goal.returns
returns g c =
    let before = map now c.loop-word.left.items in
    let text = g.S.AsStr.text in
    let may = c.loop-word.may_set in
    let past : length c.args.words.now ≤ c.loop-word.word-index = omega (arith, c.loop-word-test.false) in
    sym (append-nil before)
    ∙ ap (λ left. before ++ left) (sym (none-left may) ∙ sym (at_drop_all (λ left. left_where may (map text left)) c.args.words.now c.loop-word.word-index past))
    ∙ c.loop-word.invariant
