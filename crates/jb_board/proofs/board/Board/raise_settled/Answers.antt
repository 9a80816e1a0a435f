use Rattle.std.proofs.Common.{rules}
use Rattle.jb_board.proofs.BoardKeeps.{raises_settled}
use Rattle.jb_board.proofs.board.Board.raise_settled.Goals as goal

pub fetch_max-requires : goal.fetch_max-requires
fetch_max-requires g c = (search rules, search rules, raises_settled _ _ _ _ c.requires.taken)
