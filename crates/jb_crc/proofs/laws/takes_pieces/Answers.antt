use Rattle.jb_crc.proofs.Pieces.{crc-append}
use Rattle.jb_crc.proofs.laws.takes_pieces.Goals as goal

pub returns : goal.returns
returns c = crc-append
