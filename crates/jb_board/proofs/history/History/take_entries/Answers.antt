use Rattle.std.proofs.Common.{sym, ◌∙◌, arith}
use Rattle.jb_board.proofs.HistoryKeeps.{splits_entries}
use Rattle.jb_board.proofs.history.History.take_entries.Goals as goal

pub split_seat-requires : goal.split_seat-requires
split_seat-requires g c = (c.requires ∙ sym c.self.invariant.0, omega (arith, c.self.invariant.1), splits_entries _ _)
