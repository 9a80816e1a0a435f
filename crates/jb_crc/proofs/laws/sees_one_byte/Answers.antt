use Rattle.jb_crc.proofs.Changes.{one_byte}
use Rattle.jb_crc.proofs.laws.sees_one_byte.Goals as goal

pub returns : goal.returns
returns c = one_byte
