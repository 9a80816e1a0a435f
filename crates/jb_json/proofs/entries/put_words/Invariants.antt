use Rattle.std.proofs.Common.{ℕ, List, Option, Result, map, option_copied}
use Rattle.jb_text.specs.Parts.{words_in}
use Rattle.jb_text.specs.Puts.{Puts}
use Rattle.jb_text.specs.TextParts.{spelled}
use Rattle.jb_text.specs.declared.putting.WriteFault.{WriteFault}
use Rattle.jb_text.proofs.LineLeft.{left}
use Rattle.jb_json.specs.Entries.{entry_word}
use Rattle.jb_json.proofs.entries.put_words.Given as goal

-- what is written of the words that are left is written of all
abbrev pub invariant-loop-rest : goal.invariant-loop-rest
invariant-loop-rest g l =
    (end : Option (List ℕ)) (r : Result Unit WriteFault)
    → Puts (g.W.Write.contents l.writer) end (spelled (map (entry_word l.kind) (words_in (option_copied l.rest)))) r
    → Puts (g.W.Write.contents l.initial.writer) end (spelled (map (entry_word l.kind) (words_in (option_copied l.initial.rest)))) r

abbrev pub decreases-loop-rest : goal.decreases-loop-rest
decreases-loop-rest g l = left l.rest
