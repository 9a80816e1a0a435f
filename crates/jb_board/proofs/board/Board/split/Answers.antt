use Rattle.std.proofs.Common.{rules}
use Rattle.jb_board.proofs.BoardKeeps.{splits}
use Rattle.jb_board.proofs.board.Board.split.Goals as goal

pub split_seat-seat-requires : goal.split_seat-seat-requires
split_seat-seat-requires g c = (search rules, search rules, splits _ _)
