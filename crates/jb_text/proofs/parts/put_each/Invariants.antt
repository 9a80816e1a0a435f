use Rattle.std.proofs.Common.{◌≡◌, [], drop, List, map, Option, Result, ℕ}
use Rattle.jb_text.specs.TextParts.{spelled}
use Rattle.jb_text.specs.Puts.{Puts}
use Rattle.jb_text.specs.declared.putting.WriteFault.{WriteFault}
use Rattle.jb_text.proofs.parts.put_each.Given as goal

-- what is written of the parts that are left is written of all of them; where all of them are empty, so are these
abbrev pub invariant-loop-part : goal.invariant-loop-part
invariant-loop-part g l =
    ((end : Option (List ℕ)) (r : Result Unit WriteFault) → Puts (g.W.Write.contents l.writer) end (spelled (map (λ part. part.now) (drop l.part-index l.parts))) r
    → Puts (g.W.Write.contents l.initial.writer) end (spelled (map (λ part. part.now) l.parts)) r)
    × (spelled (map (λ part. part.now) l.parts) ≡ [] → spelled (map (λ part. part.now) (drop l.part-index l.parts)) ≡ [])
