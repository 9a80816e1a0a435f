use Rattle.jb_dump.proofs.glance.put_times.Goals as goal

pub returns : goal.returns
returns c = rw (c.in_ok-first.ensures, c.in_ok-last.ensures) at c.in_ok-write.ensures.bytes
