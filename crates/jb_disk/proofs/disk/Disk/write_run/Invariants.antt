use Rattle.jb_disk.proofs.RunWrites.{WrittenSoFar}
use Rattle.jb_disk.proofs.disk.Disk.write_run.Given as goal

abbrev pub invariant-loop-k : goal.invariant-loop-k
invariant-loop-k g l = WrittenSoFar g.Self.Disk l.place l.k l.bytes l.fn.self l.self
