use Rattle.std.proofs.Common.{◌≡◌, ◌++◌, drop, string_bytes}
use Rattle.jb_dump.specs.Picture.{home_bars}
use Rattle.jb_dump.proofs.picture.put_home_bars.Given as goal

-- with what is not put yet these are all the bars
abbrev pub invariant-loop-row : goal.invariant-loop-row
invariant-loop-row l = string_bytes l.text ++ home_bars l.most (drop l.row-index l.rows) ≡ string_bytes l.fn.text ++ home_bars l.most l.rows
