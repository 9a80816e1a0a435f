use Rattle.std.proofs.Common.{ℕ, List, Option, Result, length, map}
use Rattle.jb_text.specs.Parts.{lines}
use Rattle.jb_text.specs.Puts.{Puts}
use Rattle.jb_text.specs.TextParts.{spelled}
use Rattle.jb_text.specs.declared.putting.WriteFault.{WriteFault}
use Rattle.jb_json.specs.Entries.{entries_text, entry_text}
use Rattle.jb_json.proofs.entries.put_entries.Given as goal

-- what is written of the lines that are left is written of all
abbrev pub invariant-loop-line : goal.invariant-loop-line
invariant-loop-line g l =
    (end : Option (List ℕ)) (r : Result Unit WriteFault)
    → Puts (g.W.Write.contents l.writer) end (spelled (map entry_text (lines l.rest))) r
    → Puts (g.W.Write.contents l.initial.writer) end (entries_text l.fn.text) r

abbrev pub decreases-loop-line : goal.decreases-loop-line
decreases-loop-line g l = length l.rest
