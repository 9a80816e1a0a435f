use Rattle.std.proofs.Common.{◌≡◌}
use Rattle.jb_desk.specs.Desks.{desk_id}
use Rattle.jb_desk.specs.Seats.{desk_of}
use Rattle.tests_desk.proofs.threads.work.Given as goal

abbrev pub invariant-loop-turn : goal.invariant-loop-turn
invariant-loop-turn g l = desk_of l.seat ≡ desk_id l.desk
