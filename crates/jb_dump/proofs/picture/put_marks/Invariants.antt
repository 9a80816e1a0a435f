use Rattle.std.proofs.Common.{◌≡◌, ◌++◌, string_bytes}
use Rattle.jb_dump.specs.Picture.{columns_upto, mark_column}
use Rattle.jb_dump.proofs.picture.put_marks.Given as goal

abbrev pub invariant-loop-column : goal.invariant-loop-column
invariant-loop-column l = string_bytes l.text ≡ string_bytes l.fn.text ++ columns_upto (mark_column l.sb l.used) l.column
