use Rattle.std.proofs.Common.{ℕ, List, Option, Result, drop, map, Bor}
use Rattle.jb_text.specs.Puts.{Puts}
use Rattle.jb_text.specs.TextParts.{spelled}
use Rattle.jb_text.specs.declared.putting.WriteFault.{WriteFault}
use Rattle.jb_json.specs.Pieces.{escaped_text}
use Rattle.jb_json.proofs.quoted.put_inside.Given as goal

-- what is written of those that are left is written of all
abbrev pub invariant-loop-part : goal.invariant-loop-part
invariant-loop-part g l =
    (end : Option (List ℕ)) (r : Result Unit WriteFault)
    → Puts (g.W.Write.contents l.writer) end (spelled (map (λ (part : Bor (List ℕ)). escaped_text part.now) (drop l.part-index l.parts))) r
    → Puts (g.W.Write.contents l.initial.writer) end (spelled (map (λ (part : Bor (List ℕ)). escaped_text part.now) l.parts)) r
