use Rattle.std.proofs.Common.{sym, ◌∙◌, arith}
use Rattle.jb_board.proofs.HistoryKeeps.{looks}
use Rattle.jb_board.proofs.history.History.observe.Goals as goal

pub load-requires : goal.load-requires
load-requires g c = (c.requires ∙ sym c.self.invariant.0, omega (arith, c.self.invariant.1), looks _ _ _)
