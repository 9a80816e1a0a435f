use Rattle.std.proofs.Common.{◌≡◌, drop, map}
use Rattle.jb_args.specs.Settings.{settings_in}
use Rattle.jb_args.proofs.settings.words.settings_in.Given as goal

-- the settings so far, as the words that are left change them, are those that all words make
abbrev pub invariant-loop-word : goal.invariant-loop-word
invariant-loop-word g l =
    settings_in l.settings (map g.S.AsStr.text (drop l.word-index l.words)) ≡ settings_in l.fn.given (map g.S.AsStr.text l.words)
