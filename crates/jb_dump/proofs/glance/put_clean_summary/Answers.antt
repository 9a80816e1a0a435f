use Rattle.std.proofs.Common.{append_assoc, append-nil}
use Rattle.jb_dump.proofs.glance.put_clean_summary.Goals as goal

pub returns : goal.returns
returns c = rw (c.in_ok-put_clean.ensures, c.in_ok-put_room.ensures) (simp (append_assoc, append-nil))
