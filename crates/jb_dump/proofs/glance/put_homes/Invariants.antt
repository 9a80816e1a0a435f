use Rattle.std.proofs.Common.{◌≡◌, ◌++◌, drop, string_bytes}
use Rattle.jb_dump.specs.Summary.{written_lines}
use Rattle.jb_dump.proofs.glance.put_homes.Given as goal

-- with what is not put yet these are all the lines
abbrev pub invariant-loop-row : goal.invariant-loop-row
invariant-loop-row l = string_bytes l.text ++ written_lines (drop l.row-index l.rows) ≡ string_bytes l.initial.text ++ written_lines l.rows
