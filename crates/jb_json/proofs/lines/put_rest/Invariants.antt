use Rattle.std.proofs.Common.{ℕ, List, Option, Result, drop, map}
use Rattle.std.specs.Prelude.{codes}
use Rattle.jb_text.specs.Puts.{Puts}
use Rattle.jb_text.specs.TextParts.{spelled}
use Rattle.jb_text.specs.declared.putting.WriteFault.{WriteFault}
use Rattle.jb_json.specs.declared.field.Field.{Field}
use Rattle.jb_json.specs.Facts.{fact_of}
use Rattle.jb_json.specs.Reports.{fact_after}
use Rattle.jb_json.proofs.lines.put_rest.Given as goal

-- what is written of those that are left is written of all
abbrev pub invariant-loop-field : goal.invariant-loop-field
invariant-loop-field g l =
    (end : Option (List ℕ)) (r : Result Unit WriteFault)
    → Puts (g.W.Write.contents l.writer) end (spelled (map (λ (field : Field). fact_after (codes " ") (fact_of field)) (drop l.field-index l.fields))) r
    → Puts (g.W.Write.contents l.initial.writer) end (spelled (map (λ (field : Field). fact_after (codes " ") (fact_of field)) l.fields)) r
