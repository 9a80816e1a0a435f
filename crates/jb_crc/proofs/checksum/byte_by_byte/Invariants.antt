use Rattle.std.proofs.Common.{◌≡◌, drop}
use Rattle.jb_crc.specs.Crc.{crc32c}
use Rattle.jb_crc.proofs.checksum.byte_by_byte.Given as goal

abbrev pub invariant-loop-byte : goal.invariant-loop-byte
invariant-loop-byte l = crc32c l.crc (drop l.byte-index l.bytes) ≡ crc32c l.fn.begun l.fn.bytes
