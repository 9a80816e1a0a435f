use Rattle.std.proofs.Common.{◌≡◌, ◌++◌, drop, map}
use Rattle.jb_text.specs.TextParts.{spelled}
use Rattle.jb_commands.proofs.streams.putting.add_words.Given as goal

-- what is added, and then the words that are left, are all of them
abbrev pub invariant-loop-word : goal.invariant-loop-word
invariant-loop-word l =
    l.line.items ++ spelled (map (λ word. word.now) (drop l.word-index l.words)) ≡ l.fn.line.items ++ spelled (map (λ word. word.now) l.words)
