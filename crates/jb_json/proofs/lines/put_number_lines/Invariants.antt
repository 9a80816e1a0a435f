use Rattle.std.proofs.Common.{ℕ, List, Option, Result, drop, map}
use Rattle.jb_text.specs.Puts.{Puts}
use Rattle.jb_text.specs.TextParts.{spelled}
use Rattle.jb_text.specs.declared.putting.WriteFault.{WriteFault}
use Rattle.jb_json.specs.Reports.{number_line}
use Rattle.jb_json.proofs.lines.put_number_lines.Given as goal

-- what is written of those that are left is written of all
abbrev pub invariant-loop-number : goal.invariant-loop-number
invariant-loop-number g l =
    (end : Option (List ℕ)) (r : Result Unit WriteFault)
    → Puts (g.W.Write.contents l.writer) end (spelled (map (number_line l.each) (drop l.number-index l.numbers))) r
    → Puts (g.W.Write.contents l.initial.writer) end (spelled (map (number_line l.each) l.numbers)) r
