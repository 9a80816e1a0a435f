use Rattle.std.proofs.Common.{◌≡◌, ◌++◌, drop, map, codes, decimal, string_bytes}
use Rattle.jb_text.specs.Parts.{spaced}
use Rattle.jb_price.proofs.print.push_bounds.Given as goal

abbrev pub invariant-loop-bound : goal.invariant-loop-bound
invariant-loop-bound l = string_bytes l.text ++ spaced (map decimal (drop l.bound-index l.bounds)) ≡ string_bytes l.fn.text ++ (codes "cut" ++ spaced (map decimal l.bounds))
