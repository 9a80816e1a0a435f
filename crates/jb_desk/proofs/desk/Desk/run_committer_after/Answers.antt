use Rattle.std.proofs.Common.{ℕ, Option, Result, Ok, Err, inl, inr, sym, subst, arith, rules}
use Rattle.jb_plan.specs.Batch.{Gathered}
use Rattle.jb_board.specs.Front.{IsWithin}
use Rattle.jb_board.specs.Steps.{raised_settled}
use Rattle.jb_board.specs.declared.front.Front.{Front}
use Rattle.jb_book.specs.Rounds.{end_of}
use Rattle.jb_desk.specs.Views.{SeesCommit, SeesRound, with_taken}
use Rattle.jb_desk.specs.declared.committer.Round.{Round}
use Rattle.jb_desk.specs.declared.committer.Round.TheVariants.{Idle, Committed}
use Rattle.jb_desk.specs.declared.committer.RoundFault.{RoundFault}
use Rattle.jb_desk.specs.declared.committer.RoundFault.TheVariants.{DeviceFault}
use Rattle.jb_desk.specs.Rounds.{held_by, seat_of}
use Rattle.jb_desk.specs.Seats.{KeepsSeat, view_of}
use Rattle.jb_desk.proofs.RoundCounts.{keeps-on}
use Rattle.jb_desk.proofs.desk.Desk.run_committer_after.Given.{Over}
use Rattle.jb_desk.proofs.desk.Desk.run_committer_after.Goals.{After-commit_round}
use Rattle.jb_desk.proofs.desk.Desk.run_committer_after.Goals as goal

within-settled : (v : Front) (past settled : ℕ) → IsWithin v (raised_settled (with_taken past v) settled)
within-settled v past settled = (omega arith, omega arith, omega arith)

-- a batch that was taken up is committed
commit-rises : (b : Gathered) (v w : Front) (r : Result Round RoundFault) → SeesCommit b (with_taken (end_of b) v) w r → IsWithin v w
commit-rises b v w (Ok (Idle seen)) is = absurd is
commit-rises b v w (Ok (Committed done)) is = subst (IsWithin v) (sym is) (within-settled v (end_of b) (end_of b))
commit-rises b v w (Err (DeviceFault failed)) (lost, from, to, is) = subst (IsWithin v) (sym is) (within-settled v (end_of b) lost)
commit-rises b v w (Err fault) is = subst (IsWithin v) (sym is) (omega arith, omega arith, omega arith)

round-rises : (seen : ℕ) (held after : Option Gathered) (v w : Front) (r : Result Round RoundFault) → SeesRound seen held after v w r → IsWithin v w
round-rises seen held after v w r (inl none) = subst (IsWithin v) (sym none.1) (omega arith, omega arith, omega arith)
round-rises seen held after v w r (inr (b, up, answers, is)) = commit-rises b v w r is

-- what was within the first is within the second
within-on : (u v w : Front) → IsWithin u v → IsWithin v w → IsWithin u w
within-on u v w first second = (omega arith, omega arith, omega arith)

-- after one more round the seat is still the one that came, and no count of it has fallen
on : (g : Over) (c : After-commit_round g) → KeepsSeat (seat_of c.args.committer) (seat_of c.commit_round.new.committer) × IsWithin (view_of (seat_of c.args.committer)) (view_of (seat_of c.commit_round.new.committer))
on g c = (
  keeps-on _ _ _ c.loop.invariant.2 c.commit_round.ensures.seat,
  within-on _ _ _ c.loop.invariant.3 (round-rises _ (held_by c.loop.committer) (held_by c.commit_round.new.committer) _ _ c.commit_round.result c.commit_round.ensures.view),
)

pub returns-in-Some-await_work : goal.returns-in-Some-await_work
returns-in-Some-await_work g c = let so = on g (goal.at.returns-in-Some-await_work g c).After-commit_round in record { seat = so.0; rises = so.1; held = search rules }

pub returns-in-Err-Aborted : goal.returns-in-Err-Aborted
returns-in-Err-Aborted g c = let so = on g (goal.at.returns-in-Err-Aborted g c).After-commit_round in record { seat = so.0; rises = so.1; held = search rules }

pub returns-in-Err-Memory : goal.returns-in-Err-Memory
returns-in-Err-Memory g c = let so = on g (goal.at.returns-in-Err-Memory g c).After-commit_round in record { seat = so.0; rises = so.1; held = search rules }

pub returns-in-Err-Refused : goal.returns-in-Err-Refused
returns-in-Err-Refused g c = let so = on g (goal.at.returns-in-Err-Refused g c).After-commit_round in record { seat = so.0; rises = so.1; held = search rules }

pub loop-preserved : goal.loop-preserved
loop-preserved g c = let so = on g (goal.at.loop-preserved g c).After-commit_round in (search rules, search rules, so.0, so.1)

pub loop-preserved-after-commit_round-2 : goal.loop-preserved-after-commit_round-2
loop-preserved-after-commit_round-2 g c = let so = on g (goal.at.loop-preserved-after-commit_round-2 g c).After-commit_round in (search rules, search rules, so.0, so.1)
