-- What a round of a committer has done to the journal of its desk.
use Rattle.std.specs.Prelude.{◌≡◌, ◌≤◌, ℕ, Option, Some, Result, Ok, Err}
use Rattle.jb_plan.specs.Batch.{Gathered}
use Rattle.jb_plan.specs.Prepare.{Planned}
use Rattle.jb_disk.specs.declared.disk.Disk.{Ghosts}
use Rattle.jb_deck.specs.Done.{entries_of, first_ticket, past_after}
use Rattle.jb_deck.specs.declared.batched.BatchFault.{BatchFault}
use Rattle.jb_deck.specs.declared.done.Done.{Done}
use Rattle.jb_book.specs.Origin.{Begun}
use Rattle.jb_book.specs.Journal.{CutsBatch, FailsRound, IsRound, RefusesRound}
use Rattle.jb_desk.specs.Views.{TakesUp}
use Rattle.jb_desk.specs.declared.committer.Round.{Round}
use Rattle.jb_desk.specs.declared.committer.Round.TheVariants.{Idle, Committed}
use Rattle.jb_desk.specs.declared.committer.RoundFault.{RoundFault}
use Rattle.jb_desk.specs.declared.committer.RoundFault.TheVariants.{Aborted, Memory, DeviceFault, Refused}

module _ {D : Type 0} (G : Ghosts D) (b : Begun) where
  -- What a round has done of a committer that held such a batch before it and after it, where this many handles were
  -- seen before, and whose seat is then sure of this many settled tickets: a batch is committed, of one handle at
  -- least; or the journal has failed, and the seat is sure of what is settled in it; or the journal, which has not
  -- failed, does not take the batch that is held then, and is as it was
  abbrev pub CommitsRound : ℕ → Option Gathered → Option Gathered → ℕ → Result Round RoundFault → Type 0
  CommitsRound seen held after reached (Ok (Idle none)) = Unit {0}
  CommitsRound seen held after reached (Ok (Committed done)) =
      (p : Planned) × TakesUp seen held p.batch × IsRound G b p done
  CommitsRound seen held after reached (Err (Aborted failed)) = Unit {0}
  CommitsRound seen held after reached (Err (DeviceFault failed)) =
      (p : Planned) × (settled : Done) × TakesUp seen held p.batch × FailsRound G b p settled
      × (past_after (first_ticket settled) (entries_of settled) ≤ reached)
  CommitsRound seen held after reached (Err Memory) = Unit {0}
  CommitsRound seen held after reached (Err Refused) =
      (p : Planned) × (fault : BatchFault) × TakesUp seen held p.batch × (after ≡ Some p.batch)
      × RefusesRound G b p fault

  -- a round that has committed took up a batch, of one handle at least, and it is committed by a least cut of it
  abbrev pub CutsRound : ℕ → Option Gathered → Result Round RoundFault → Type 0
  CutsRound seen held (Ok (Idle none)) = Unit {0}
  CutsRound seen held (Ok (Committed done)) = (p : Planned) × TakesUp seen held p.batch × CutsBatch G b p done
  CutsRound seen held (Err fault) = Unit {0}
