-- A book's account as a part of what the machine of handles has, after events that the machine accepted.
use Rattle.std.specs.Prelude.{◌≡◌, ◌⊎◌, ℕ, ◌<◌, ◌≤◌, true, false, List, [], ◌∷◌, ◌++◌, map, length, All, Some, None}
use Rattle.std.specs.Prelude.{Result, Ok, Err}
use Rattle.std.specs.FinMap as words
use Rattle.std.specs.Global.{Vec}
use Rattle.std.specs.Map.{values_of}
use Rattle.jb_handle.specs.declared.op.Op.{Op}
use Rattle.jb_handle.specs.declared.op.Op.TheVariants.{Write, Revoke}
use Rattle.jb_handle.specs.declared.shape.Shape.{Shape}
use Rattle.jb_handle.specs.declared.stopped.Stopped.{Stopped}
use Rattle.jb_handle.specs.declared.word.Word.{Word}
use Rattle.jb_handle.specs.declared.word.Word.TheVariants.{Copy, Free}
use Rattle.jb_handle.specs.HeldChanges.{Held}
use Rattle.jb_handle.specs.Word.{WordMap}
use Rattle.jb_cost.specs.Pieces.{pieces}
use Rattle.jb_plan.specs.Batch.{gathered}
use Rattle.jb_block.specs.declared.stamp.Stamp.{Stamp}
use Rattle.jb_plan.specs.Prepare.{Planned, IsPlanned}
use Rattle.jb_deck.specs.CommitBatch.{AnswersBatch}
use Rattle.jb_deck.specs.Deck.{OpenDeck}
use Rattle.jb_deck.specs.Done.{entries_of}
use Rattle.jb_deck.specs.declared.batched.BatchFault.{BatchFault}
use Rattle.jb_deck.specs.declared.batched.BatchFault.TheVariants.{DeviceFault}
use Rattle.jb_deck.specs.declared.done.Done.{Done}
use Rattle.jb_deck.specs.declared.done.Entry.{Entry}
use Rattle.jb_core.specs.declared.event.Event.TheVariants as event
use Rattle.jb_core.specs.declared.event.Reply.TheVariants.{Plain, Ticket}
use Rattle.jb_core.specs.Lives.{EventLog, handles_of_order, stop_order}
use Rattle.jb_core.specs.Machine.{Machine, after_event}
use Rattle.jb_core.specs.MachineRuns.{RanFromStart}
use Rattle.jb_book.specs.Account.{Account, IsAccountSound, IsNewBook, granted_to, dropped_of, queued, taken_all}
use Rattle.jb_book.specs.Account.{settled_to, failed_of, begin_refusal, CanStop, CanTake, Settles}
use Rattle.jb_book.specs.Calls.{BookCall, CallsMake, AreOfFirst, IsCutOf, KeepsWhole, stops_of, out_of, settled_of}
use Rattle.jb_book.specs.Events.{shadow_of}
use Rattle.jb_book.specs.Shadow.{Shadow, credits_at, crashed}

-- ---- the tie

-- the machine accepted each event
abbrev pub AreAccepted : EventLog → Type 0
AreAccepted [] = Unit {0}
AreAccepted ((event, Ok reply) ∷ earlier) = AreAccepted earlier
AreAccepted ((event, Err fault) ∷ earlier) = ⊥

-- no change of the handle is among the events yet
abbrev pub IsUntouched : Held → Type 0
IsUntouched h = h.words ≡ words.empty

-- a group has a handle
abbrev pub HasHandle : List Stopped → Type 0
HasHandle group = 0 < length group

-- the machine is up, and the book has exactly its shadow
pub record IsRunning (s : Shadow) (m : Machine) : Type 0 where
  pub up : m.up ≡ true
  pub shadow : shadow_of m ≡ s

-- the machine has crashed, and the book has its shadow but for open seats, which a book lists until they are dropped
pub record IsDown (s : Shadow) (m : Machine) : Type 0 where
  pub down : m.up ≡ false
  pub shadow : shadow_of m ≡ crashed s

-- These events, each accepted, lead a machine of the book's shape in one life to what the book has
pub record Tied (a : Account) (log : EventLog) (m : Machine) : Type 0 where
  pub ran : RanFromStart a.shape log m
  pub accepted : AreAccepted log
  pub one_life : m.earlier ≡ 0
  pub untouched : All IsUntouched (values_of m.handles)
  pub filled : All HasHandle m.taken
  pub running : a.aborted ≡ false → IsRunning a.shadow m
  pub failed : a.aborted ≡ true → IsDown a.shadow m

-- ---- the events of a stop

-- the change that leaves a word on a home
abbrev pub op_for : ℕ × Word → Op
op_for (home, Copy bytes) = Write home bytes
op_for (home, Free) = Revoke home

-- a change of each home that the words touch, each accepted
abbrev pub touches_of : ℕ → WordMap → EventLog
touches_of seat ws = map (λ e. (event.Touch seat (op_for e), Ok Plain)) (words.entries ws)

-- ---- the laws

-- some machine to which these events lead is tied to the account
abbrev pub TiedBy : Account → EventLog → Type 0
TiedBy a log = (m : Machine) × Tied a log m

-- What a book accepts, the machine accepts: each call of a sound book, by the condition that its contract gives, is an
-- event or more, and the account after it is tied again
pub record BookIsTied : Type 0 where
  pub starts : (shape : Shape) (usable : ℕ) (a : Account) → IsNewBook shape usable a → TiedBy a []
  pub opens : (a : Account) (log : EventLog) (m : Machine) → IsAccountSound a → Tied a log m → (seat credits : ℕ)
      → begin_refusal a seat credits ≡ None
      → Tied (granted_to seat credits a) ((event.Open seat credits, Ok Plain) ∷ log)
      (after_event m (event.Open seat credits))
  pub stops : (a : Account) (log : EventLog) (m : Machine) → IsAccountSound a → Tied a log m → (seat : ℕ) (ws : WordMap)
      → CanStop a seat ws
      → TiedBy (queued seat ws a) ((event.Stop seat, Ok (Ticket a.shadow.next)) ∷ touches_of seat ws ++ log)
  -- a dropped handle of a book that runs is an Abandon; where the seat has none, or the book has failed, nothing
  -- happens to the machine
  pub drops : (a : Account) (log : EventLog) (m : Machine) → Tied a log m → a.aborted ≡ false → (seat credits : ℕ)
      → credits_at a.shadow seat ≡ Some credits
      → Tied (dropped_of seat a) ((event.Abandon seat, Ok Plain) ∷ log) (after_event m (event.Abandon seat))
  pub drops_none : (a : Account) (log : EventLog) (m : Machine) → Tied a log m → (seat : ℕ)
      → (a.aborted ≡ true) ⊎ (credits_at a.shadow seat ≡ None)
      → Tied (dropped_of seat a) log m
  pub takes : (a : Account) (log : EventLog) (m : Machine) → Tied a log m → CanTake a → (bounds : Vec ℕ)
      → IsCutOf (gathered a.shadow.taken a.shadow.queue a.shape) bounds.items
      → Tied (taken_all a) ((event.Take bounds, Ok Plain) ∷ log) (after_event m (event.Take bounds))
  -- entries of the first taken groups are the Settle of as many groups; of a book that has failed there are none
  pub settles : (a : Account) (log : EventLog) (m : Machine) → Tied a log m → a.aborted ≡ false
      → (past : ℕ) (entries : List Entry) → Settles a past entries → AreOfFirst m.taken entries
      → Tied (settled_to past entries a) ((event.Settle (length entries), Ok Plain) ∷ log)
      (after_event m (event.Settle (length entries)))
  pub settles_none : (a : Account) (log : EventLog) (m : Machine) → IsAccountSound a → Tied a log m → a.aborted ≡ true
      → (past : ℕ) (entries : List Entry) → Settles a past entries
      → (entries ≡ []) × Tied (settled_to past entries a) log m
  pub fails : (a : Account) (log : EventLog) (m : Machine) → Tied a log m → a.aborted ≡ false
      → Tied (failed_of a) ((event.Crash 0, Ok Plain) ∷ log) (after_event m (event.Crash 0))
  pub fails_again : (a : Account) (log : EventLog) (m : Machine) → IsAccountSound a → Tied a log m → a.aborted ≡ true
      → Tied (failed_of a) log m
  pub shuts : (a : Account) (log : EventLog) (m : Machine) → Tied a log m → Tied (record a { shut = true }) log m

-- ---- a list of calls

-- The machine's list of events for these calls: its account, its stop order, its groups are those of the calls
pub record IsInterleaving (calls : List BookCall) (a : Account) (log : EventLog) (m : Machine) : Type 0 where
  pub tied : Tied a log m
  pub stops : handles_of_order (stop_order log) ≡ stops_of calls
  pub settled : m.settled ≡ settled_of calls
  pub out : m.taken ≡ out_of calls

-- Any list of calls of a new book is a list of events that the machine accepts, and keeps each handle whole in one
-- group or in none. An event holds the bounds of its cut in a Vec, and there is one where there is any
abbrev pub EveryRun : Type 0
EveryRun =
    (any : Vec Entry) (shape : Shape) (usable : ℕ) (calls : List BookCall) (a : Account) → usable ≤ 2147483646
    → CallsMake shape usable calls a
    → KeepsWhole shape calls a × ((log : EventLog) × (m : Machine) × IsInterleaving calls a log m)

-- ---- what a commit tells

-- what a commit answers: all groups of its batch are settled, or after a fault of the disk the first ones
abbrev pub TellsFirst : Planned → Result Done BatchFault → Type 0
TellsFirst p (Ok done) = AreOfFirst (pieces p.groups p.batch.handles) (entries_of done)
TellsFirst p (Err (DeviceFault settled)) = AreOfFirst (pieces p.groups p.batch.handles) (entries_of settled)
TellsFirst p (Err refused) = Unit {0}

-- whatever deck it was, the entries are those of the first groups of the batch's cut
abbrev pub CommitTells : Type 0 → Type 0
CommitTells D =
    (before after : ℕ) (p : Planned) (stamp : Stamp) (old new : OpenDeck D) (answer : Result Done BatchFault)
    → IsPlanned p → AnswersBatch before after p stamp old new answer → TellsFirst p answer
