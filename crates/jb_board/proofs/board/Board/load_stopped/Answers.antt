use Rattle.std.proofs.Common.{rules}
use Rattle.jb_board.proofs.BoardKeeps.{loads_stopped}
use Rattle.jb_board.proofs.board.Board.load_stopped.Goals as goal

pub load-requires : goal.load-requires
load-requires g c = (search rules, search rules, loads_stopped _ _ _)
