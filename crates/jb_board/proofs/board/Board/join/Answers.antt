use Rattle.std.proofs.Common.{rules}
use Rattle.jb_board.proofs.BoardKeeps.{joins}
use Rattle.jb_board.proofs.board.Board.join.Goals as goal

pub join_seat-requires : goal.join_seat-requires
join_seat-requires g c = (search rules, search rules, search rules, search rules, joins _ _ _ _)
