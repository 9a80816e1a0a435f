use Rattle.std.proofs.Common.{◌-◌, arith}
use Rattle.jb_dump.proofs.PictureColumns.{part-within}
use Rattle.jb_dump.proofs.picture.column_count.Goals as goal

pub overflow_add-result : goal.overflow_add-result
overflow_add-result c = omega (arith, part-within (c.usable.result - 1) c.column_blocks.result c.column_blocks.ensures.some, c.usable.ensures.range)
