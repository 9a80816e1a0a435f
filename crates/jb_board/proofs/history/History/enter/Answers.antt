use Rattle.std.proofs.Common.{arith}
use Rattle.jb_board.proofs.HistoryKeeps.{enters}
use Rattle.jb_board.proofs.history.History.enter.Goals as goal

pub load_new_seat-seat-requires : goal.load_new_seat-seat-requires
load_new_seat-seat-requires g c = (omega (arith, c.self.invariant.1), enters _)
