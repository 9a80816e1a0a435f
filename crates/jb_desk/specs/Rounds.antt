-- What a round of a committer makes of a book and of the committer.
use Rattle.std.specs.Prelude.{◌≡◌, ℕ, ◌<◌, ◌≤◌, true, false, Option, Some, None, is_some, Result, Ok, Err}
use Rattle.jb_plan.specs.Batch.{Gathered, gathered}
use Rattle.jb_plan.specs.Costs.{HasCut}
use Rattle.jb_deck.specs.Done.{Follow, first_ticket, entries_of}
use Rattle.jb_book.specs.Account.{Account, taken_all, failed_of, CanTake, IsOver}
use Rattle.jb_book.specs.Rounds.{end_of}
use Rattle.jb_desk.specs.declared.committer.Committer.{Committer}
use Rattle.jb_desk.specs.declared.committer.Round.{Round}
use Rattle.jb_desk.specs.declared.committer.Round.TheVariants.{Idle, Committed}
use Rattle.jb_desk.specs.declared.committer.RoundFault.{RoundFault}
use Rattle.jb_desk.specs.declared.committer.RoundFault.TheVariants.{Aborted, Memory, DeviceFault, Refused}
use Rattle.jb_desk.specs.declared.queue_state.aborted.HasAborted.{HasAborted}
use Rattle.jb_book.specs.declared.origin.Origin.{Ghosts}
use Rattle.jb_board.specs.declared.place.Place.{Ghosts as Places}
use Rattle.jb_desk.specs.declared.seat.Seat.{Seat}

-- ---- a committer

-- the seat that commits
abbrev pub seat_of : {H : Type 0} {O : Ghosts H} {P : Places H} → Committer H O P → Seat H O P
seat_of c = c.seat

-- the batch that it holds
abbrev pub held_by : {H : Type 0} {O : Ghosts H} {P : Places H} → Committer H O P → Option Gathered
held_by c = c.batch

-- ---- the book

-- all that was queued is taken as this batch, up to the ticket of the next handle that stops
abbrev pub TakesQueue : Gathered → Account → Account → Type 0
TakesQueue b old new =
    (b ≡ gathered old.shadow.taken old.shadow.queue old.shape) × HasCut old.shape old.shadow.queue
    × (end_of b ≡ new.shadow.next) × (new ≡ taken_all old)

-- the batch that is held goes on, or else the queue is taken; none does in a book that has failed
abbrev pub GivesBatch : Result (Option Gathered) RoundFault → Option Gathered → Account → Account → Type 0
GivesBatch (Err fault) held old new =
    ((failed : HasAborted) × (fault ≡ Aborted failed)) × (old.aborted ≡ true) × (new ≡ old)
GivesBatch (Ok given) (Some b) old new = (old.aborted ≡ false) × (given ≡ Some b) × (new ≡ old)
GivesBatch (Ok (Some b)) None old new = CanTake old × TakesQueue b old new
GivesBatch (Ok None) None old new = (old.aborted ≡ false) × (CanTake old → ⊥) × (new ≡ old)

-- a batch that is held is lost, and the book has failed; where none is, nothing has changed
abbrev pub GivesUp : Option Gathered → Account → Account → Type 0
GivesUp None old new = new ≡ old
GivesUp (Some b) old new = new ≡ failed_of old

-- a committer has nothing to do, and may have later
pub record Rests (a : Account) : Type 0 where
  pub running : a.aborted ≡ false
  pub none : CanTake a → ⊥
  pub on : IsOver a → ⊥

-- ---- the round

-- of a batch that was held, the range is the batch's
abbrev pub IsOfHeld : Option Gathered → ℕ → ℕ → Type 0
IsOfHeld None first past = Unit {0}
IsOfHeld (Some b) first past = (first ≡ b.first) × (past ≡ end_of b)

-- a batch is held, and the same as before, where one was
abbrev pub StaysHeld : Option Gathered → Option Gathered → Type 0
StaysHeld None new = is_some new ≡ true
StaysHeld (Some b) new = new ≡ Some b

-- What a round answers, where the committer held such a batch before and after it, and its seat is sure of this many
-- settled tickets: a batch that is committed is settled whole, one handle at least, and the seat is sure of it; a batch
-- stays held where it may still be committed, and only there.
abbrev pub AnswersRound : Option Gathered → Option Gathered → ℕ → Result Round RoundFault → Type 0
AnswersRound old new settled (Ok (Idle seen)) = (old ≡ None) × (new ≡ None)
AnswersRound old new settled (Ok (Committed done)) =
    (new ≡ None) × ((past : ℕ) × Follow (first_ticket done) 0 past (entries_of done) × (first_ticket done < past)
    × (past ≤ settled) × IsOfHeld old (first_ticket done) past)
AnswersRound old new settled (Err (Aborted failed)) = new ≡ None
AnswersRound old new settled (Err (DeviceFault failed)) = new ≡ None
AnswersRound old new settled (Err Memory) = StaysHeld old new
AnswersRound old new settled (Err Refused) = StaysHeld old new

-- a round that finds nothing to commit leaves the seat as it was, and has looked at a book in which all that was seen
-- had stopped
abbrev pub IdleKeeps : {H : Type 0} {O : Ghosts H} {P : Places H} → ℕ → Seat H O P → Seat H O P
    → Result Round RoundFault → Type 0
IdleKeeps seen old new (Ok (Idle none)) = (new ≡ old) × (seen ≤ none.seen.stopped)
IdleKeeps seen old new (Ok (Committed done)) = Unit {0}
IdleKeeps seen old new (Err fault) = Unit {0}
