use Rattle.jb_board.specs.Front.{IsWithin}
use Rattle.jb_desk.specs.Rounds.{seat_of}
use Rattle.jb_desk.specs.Seats.{KeepsSeat, view_of}
use Rattle.jb_desk.proofs.desk.Desk.run_committer_after.Given as goal

abbrev pub invariant-loop : goal.invariant-loop
invariant-loop g l =
    (goal.iterator-loop g).can_next l.iterator' × (goal.iterator-loop g).is_finite l.iterator'
    × KeepsSeat (seat_of l.initial.committer) (seat_of l.committer)
    × IsWithin (view_of (seat_of l.initial.committer)) (view_of (seat_of l.committer))
