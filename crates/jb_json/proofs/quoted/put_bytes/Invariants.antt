use Rattle.std.proofs.Common.{ℕ, List, Option, Result, drop, map}
use Rattle.jb_text.specs.Puts.{Puts}
use Rattle.jb_text.specs.TextParts.{spelled}
use Rattle.jb_text.specs.declared.putting.WriteFault.{WriteFault}
use Rattle.json.specs.Print.{escape_byte}
use Rattle.jb_json.proofs.quoted.put_bytes.Given as goal

-- what is written of those that are left is written of all
abbrev pub invariant-loop-byte : goal.invariant-loop-byte
invariant-loop-byte g l =
    (end : Option (List ℕ)) (r : Result Unit WriteFault)
    → Puts (g.W.Write.contents l.writer) end (spelled (map escape_byte (drop l.byte-index l.text))) r
    → Puts (g.W.Write.contents l.initial.writer) end (spelled (map escape_byte l.text)) r
