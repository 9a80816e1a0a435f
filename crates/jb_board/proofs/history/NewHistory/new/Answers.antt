use Rattle.jb_board.proofs.HistoryKeeps.{starts}
use Rattle.jb_board.proofs.history.NewHistory.new.Goals as goal

pub of_words-requires : goal.of_words-requires
of_words-requires g c = starts
