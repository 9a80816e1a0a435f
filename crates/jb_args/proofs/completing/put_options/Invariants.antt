use Rattle.std.proofs.Common.{◌≡◌, ◌++◌, drop, map, string_bytes}
use Rattle.jb_args.specs.Completions.{options_completed}
use Rattle.jb_args.specs.Rows.{rule_of_word}
use Rattle.jb_args.proofs.completing.put_options.Given as goal

-- what is put, and then the options that are left, are all of them
abbrev pub invariant-loop-word : goal.invariant-loop-word
invariant-loop-word l =
    string_bytes l.text ++ options_completed (map rule_of_word (drop l.word-index l.words))
    ≡ string_bytes l.fn.text ++ options_completed (map rule_of_word l.words)
