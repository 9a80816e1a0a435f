use Rattle.std.proofs.Common.{sym, ◌∙◌, arith}
use Rattle.jb_board.proofs.HistoryKeeps.{joins}
use Rattle.jb_board.proofs.history.History.tell.Goals as goal

pub join_seat-requires : goal.join_seat-requires
join_seat-requires g c = (c.requires.here ∙ sym c.self.invariant.0, c.requires.other.0 ∙ sym c.self.invariant.0, c.requires.other.1, omega (arith, c.self.invariant.1), joins _ _ _ _)
