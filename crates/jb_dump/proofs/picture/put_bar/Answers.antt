use Rattle.std.proofs.Common.{◌++◌, append_assoc, string_bytes}
use Rattle.jb_dump.specs.Picture.{bar_column, columns_upto}
use Rattle.jb_dump.proofs.PictureColumns.{columns-more}
use Rattle.jb_dump.proofs.picture.put_bar.Goals as goal

pub loop-column-preserved : goal.loop-column-preserved
loop-column-preserved c few =
    let bar = bar_column c.args.sb.now c.args.sizes.now c.args.used in
    let put = rw (c.loop-column.invariant few, c.begun_in.ensures few, c.index_at.ensures, c.column_place.ensures, c.from.ensures) at c.in_ok-put_column.ensures in
    rw (put, columns-more bar c.loop-column.column) (append_assoc (string_bytes c.args.text.now) (columns_upto bar c.loop-column.column) (bar c.loop-column.column))
