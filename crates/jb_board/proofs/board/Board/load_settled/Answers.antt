use Rattle.std.proofs.Common.{rules}
use Rattle.jb_board.proofs.BoardKeeps.{loads_settled}
use Rattle.jb_board.proofs.board.Board.load_settled.Goals as goal

pub load-requires : goal.load-requires
load-requires g c = (search rules, search rules, loads_settled _ _ _)
