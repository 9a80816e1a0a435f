use Rattle.std.proofs.Common.{◌≡◌}
use Rattle.jb_board.specs.Seats.{board_id, seat_board}
use Rattle.tests_recover.proofs.boards.faults.Given as goal

abbrev pub invariant-loop-count : goal.invariant-loop-count
invariant-loop-count g l = seat_board l.seat ≡ board_id l.board
