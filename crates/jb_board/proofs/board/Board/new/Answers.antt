use Rattle.jb_board.proofs.BoardKeeps.{starts}
use Rattle.jb_board.proofs.board.Board.new.Goals as goal

pub of_words-requires : goal.of_words-requires
of_words-requires g c = starts
