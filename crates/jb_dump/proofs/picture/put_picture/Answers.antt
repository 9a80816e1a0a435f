use Rattle.std.proofs.Common.{append_assoc, append-nil}
use Rattle.jb_dump.proofs.picture.put_picture.Goals as goal

pub returns : goal.returns
returns c few =
    let legend = rw c.column_blocks.ensures.value at c.in_ok-put_legend.ensures in
    rw (c.in_ok-put_home_bars.ensures, c.in_ok-push_str-3.ensures.bytes, c.in_ok-put_marks.ensures, c.in_ok-push_str-2.ensures.bytes, c.in_ok-put_bar.ensures few, c.in_ok-push_str.ensures.bytes, legend) (simp (append_assoc, append-nil))
