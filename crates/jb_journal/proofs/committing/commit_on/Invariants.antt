use Rattle.jb_desk.specs.Rounds.{seat_of}
use Rattle.jb_desk.specs.Seats.{KeepsSeat}
use Rattle.jb_journal.proofs.committing.commit_on.Given as goal

-- the seat is the one that came
abbrev pub invariant-loop : goal.invariant-loop
invariant-loop g l = KeepsSeat (seat_of l.initial.committer) (seat_of l.committer)
