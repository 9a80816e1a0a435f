use Rattle.std.proofs.Common.{◌≡◌, ◌<◌, ◌^◌, ◌++◌, string_bytes}
use Rattle.jb_dump.specs.Picture.{bar_column, columns_upto}
use Rattle.jb_dump.specs.Summary.{sum_of}
use Rattle.jb_dump.proofs.picture.put_bar.Given as goal

abbrev pub invariant-loop-column : goal.invariant-loop-column
invariant-loop-column l = sum_of l.sizes < 2 ^ 32 → string_bytes l.text ≡ string_bytes l.fn.text ++ columns_upto (bar_column l.sb l.sizes l.used) l.column
