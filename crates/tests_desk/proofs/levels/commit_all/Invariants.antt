use Rattle.std.proofs.Common.{◌≡◌}
use Rattle.jb_desk.specs.Desks.{desk_id}
use Rattle.jb_desk.specs.Seats.{desk_of}
use Rattle.tests_desk.proofs.levels.commit_all.Given as goal

abbrev pub invariant-loop-home : goal.invariant-loop-home
invariant-loop-home g l = desk_of l.seat ≡ desk_id l.desk
