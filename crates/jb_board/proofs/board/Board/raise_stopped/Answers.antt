use Rattle.std.proofs.Common.{rules}
use Rattle.jb_board.proofs.BoardKeeps.{raises_stopped}
use Rattle.jb_board.proofs.board.Board.raise_stopped.Goals as goal

pub fetch_max-requires : goal.fetch_max-requires
fetch_max-requires g c = (search rules, search rules, raises_stopped _ _ _ _)
