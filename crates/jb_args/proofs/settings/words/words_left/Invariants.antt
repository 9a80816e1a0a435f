use Rattle.std.proofs.Common.{◌≡◌, ◌++◌, List, ℕ, Bor, drop, map}
use Rattle.jb_args.specs.Settings.{words_left}
use Rattle.jb_args.proofs.SettingWords.{left_where}
use Rattle.jb_args.proofs.settings.words.words_left.Given as goal

-- what is left so far, and then what is left of the words after, is what is left of all
abbrev pub invariant-loop-word : goal.invariant-loop-word
invariant-loop-word g l =
    map (λ (word : Bor (List ℕ)). word.now) l.left.items ++ left_where l.may_set (map g.S.AsStr.text (drop l.word-index l.words))
    ≡ words_left (map g.S.AsStr.text l.words)
