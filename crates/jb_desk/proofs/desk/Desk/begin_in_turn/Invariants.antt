use Rattle.std.proofs.Common.{◌≡◌}
use Rattle.jb_desk.proofs.desk.Desk.begin_in_turn.Given as goal

-- the seat is the one that came
abbrev pub invariant-loop : goal.invariant-loop
invariant-loop g l = l.seat ≡ l.initial.seat
