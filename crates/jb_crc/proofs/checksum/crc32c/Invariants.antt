use Rattle.std.proofs.Common.{◌≡◌, length}
use Rattle.jb_crc.specs.Crc.{crc32c}
use Rattle.jb_crc.proofs.checksum.crc32c.Given as goal

abbrev pub invariant-loop-rest : goal.invariant-loop-rest
invariant-loop-rest l = crc32c l.crc l.rest ≡ crc32c l.fn.begun l.fn.bytes

abbrev pub decreases-loop-rest : goal.decreases-loop-rest
decreases-loop-rest l = length l.rest
