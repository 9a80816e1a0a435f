use Rattle.std.proofs.Common.{arith}
use Rattle.jiff_core.proofs.SignedLemmas.{signed_casts}
use Rattle.jb_dump.proofs.date.instant.Goals as goal

pub unwrap-requires : goal.unwrap-requires
unwrap-requires c = c.from_second.ensures.succeeds.1 (omega (arith, signed_casts, c.requires))
