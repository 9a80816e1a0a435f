use Rattle.std.proofs.Common.{◌+◌, ◌≤◌, ap, sym, subst, ◌∙◌, arith}
use Rattle.jb_board.specs.Seats.{seat_board, seat_view}
use Rattle.jb_board.specs.Steps.{raised_stopped}
use Rattle.jb_board.specs.declared.front.Front.{Front}
use Rattle.jb_desk.proofs.RoundCounts.{reached}
use Rattle.jb_desk.proofs.desk.Desk.stop.Goals as goal

pub returns-clause-seat : goal.returns-clause-seat
returns-clause-seat g c =
    let stopped = c.in_ok-seat.ensures.ok in
    record {
      desk = c.raise_stopped.ensures.board ∙ ap (λ b. seat_board b) stopped.same_board;
      number = stopped.same_number;
      counted = record { stopped = stopped.counted.stopped; touched = stopped.counted.touched; made = stopped.counted.made };
      view = c.raise_stopped.ensures.view ∙ ap (λ b. raised_stopped (seat_view b) (c.in_ok-seat.ticket + 1)) stopped.same_board;
    }

pub returns-clause-sees : goal.returns-clause-sees
returns-clause-sees g c = c.in_ok-seat.ensures.sees

pub returns-clause-marks : goal.returns-clause-marks
returns-clause-marks g c = c.stop.ensures.marks

pub returns-clause-stopped : goal.returns-clause-stopped
returns-clause-stopped g c =
    let up = subst (λ (f : Front). c.in_ok-seat.ticket + 1 ≤ f.stopped) (sym c.raise_stopped.ensures.view) (reached _ (c.in_ok-seat.ticket + 1)) in
    omega (arith, up)

pub returns-clause-refused : goal.returns-clause-refused
returns-clause-refused g c = tt

pub returns-in_err-seat-clause-marks : goal.returns-in_err-seat-clause-marks
returns-in_err-seat-clause-marks g c = c.stop.ensures.marks
