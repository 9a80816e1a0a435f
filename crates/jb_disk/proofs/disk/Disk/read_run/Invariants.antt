use Rattle.jb_disk.proofs.RunReads.{ReadSoFar}
use Rattle.jb_disk.proofs.disk.Disk.read_run.Given as goal

abbrev pub invariant-loop-k : goal.invariant-loop-k
invariant-loop-k g l = ReadSoFar g.Self.Disk l.place l.k l.fn.self l.self l.buf
