use Rattle.std.proofs.Common.{◌≡◌}
use Rattle.jb_desk.specs.Desks.{desk_id}
use Rattle.jb_desk.specs.Seats.{desk_of}
use Rattle.tests_desk.proofs.lives.rounds.Given as goal

abbrev pub invariant-loop-round : goal.invariant-loop-round
invariant-loop-round g l = desk_of l.seat ≡ desk_id l.desk
