use Rattle.std.proofs.Common.{◌≡◌, ◌≤◌, ◌++◌, drop, length, map}
use Rattle.jb_text.specs.TextParts.{spelled}
use Rattle.jb_text.proofs.parts.gathered.Given as goal

-- what is gathered, and then the parts that are left, are the whole text; and it fits
abbrev pub invariant-loop-part : goal.invariant-loop-part
invariant-loop-part l =
    (l.text.items ++ spelled (map (λ part. part.now) (drop l.part-index l.parts)) ≡ spelled (map (λ part. part.now) l.parts))
    × (length l.text.items ≤ 4096)
