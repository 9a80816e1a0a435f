use Rattle.std.proofs.Common.{sym, ◌∙◌, arith}
use Rattle.jb_board.proofs.HistoryKeeps.{adds}
use Rattle.jb_board.proofs.history.History.add.Goals as goal

pub compare_exchange_with-requires : goal.compare_exchange_with-requires
compare_exchange_with-requires g c = (c.appender.invariant.0 ∙ sym c.self.invariant.0, omega (arith, c.self.invariant.1), adds _ _ _ _ c.appender.invariant.2)
