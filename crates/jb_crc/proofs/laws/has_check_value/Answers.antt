use Rattle.std.proofs.Common.{refl}
use Rattle.jb_crc.specs.Crc.{crc32c, times_x_to}
use Rattle.jb_crc.proofs.laws.has_check_value.Goals as goal

pub returns : goal.returns
unfolding crc32c times_x_to
returns c = refl
