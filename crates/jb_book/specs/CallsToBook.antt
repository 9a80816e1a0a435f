-- The calls that led to a book, whose stops are the history.
use Rattle.std.specs.Prelude.{◌≡◌, ℕ, ◌+◌, ◌≤◌, ◌^◌, false, List, [], ◌∷◌, ◌++◌, map, length, All, Result, Ok, Err}
use Rattle.std.specs.List.{sum_by}
use Rattle.jb_plan.specs.Batch.{gathered}
use Rattle.jb_cost.specs.Pieces.{pieces}
use Rattle.jb_deck.specs.declared.done.Entry.{Entry}
use Rattle.jb_handle.specs.Tickets.{TicketsFrom}
use Rattle.jb_handle.specs.Word.{WordMap}
use Rattle.jb_handle.specs.declared.stopped.Stopped.{Stopped}
use Rattle.jb_plan.specs.Prepare.{Planned, IsPlanned}
use Rattle.jb_deck.specs.Done.{first_ticket, entries_of}
use Rattle.jb_deck.specs.declared.done.Done.{Done}
use Rattle.jb_handle.specs.declared.shape.Shape.{Shape}
use Rattle.jb_core.specs.Lives.{EventLog, handles_of_order, stop_order}
use Rattle.jb_core.specs.Machine.{Machine}
use Rattle.jb_core.specs.MachineRuns.{RanFromStart}
use Rattle.jb_book.specs.Account.{Account, CanStop, Settles, changed_by, failed_of, queued, settled_to}
use Rattle.jb_book.specs.Calls.{BookCall, CallsMake, AreOfFirst, IsCutOf, handles_in, out_of, stops_of}
use Rattle.jb_book.specs.MachineTie.{AreAccepted}
use Rattle.jb_book.specs.declared.fault.WrongBatch.{WrongBatch}
use Rattle.jb_board.specs.HistoryRule.{StandsIn, with_places}

-- the handle is the one of the history that has its ticket
abbrev pub IsInHistory : List WordMap → Stopped → Type 0
IsInHistory log h = StandsIn log (h.ticket, h.words)

-- the home blocks that the handles of the history touched, added up
abbrev pub changes_in : List WordMap → ℕ
changes_in log = sum_by changed_by (with_places 0 log)

-- the handles of the history that are taken and not settled
pub record AreOut (log : List WordMap) (settled taken : ℕ) (hs : List Stopped) : Type 0 where
  pub tickets : TicketsFrom settled hs
  pub recorded : All (IsInHistory log) hs
  pub number : settled + length hs ≡ taken

-- what is left of a trail from whose front entries were taken: the last one at least
pub record IsRestOf (left full : List Entry) : Type 0 where
  pub front : List Entry
  pub is : front ++ left ≡ full
  pub last : left ≡ [] → full ≡ []

-- the account with its whole trail
abbrev pub with_trail : List Entry → Account → Account
with_trail full a = record a { trail = full }

-- the words of handles
abbrev pub words_stopped : List Stopped → List WordMap
words_stopped hs = map (λ (h : Stopped). h.words) hs

-- Calls of a new book led to this account. What stopped by them is the history, and these handles are out, in the
-- groups of this cut
pub record Led (log : List WordMap) (a : Account) (hs : List Stopped) (cut : List ℕ) : Type 0 where
  pub calls : List BookCall
  pub full : List Entry
  pub left : IsRestOf a.trail full
  pub called : CallsMake a.shape a.usable calls (with_trail full a)
  pub stops : words_stopped (stops_of calls) ≡ log
  pub out : a.aborted ≡ false → out_of calls ≡ pieces cut hs

-- the handles are those that are out, and this is a least cut of them
abbrev pub AreCut : List WordMap → Account → List Stopped → List ℕ → Type 0
AreCut log a hs cut = AreOut log a.shadow.settled a.shadow.taken hs × IsCutOf (gathered a.shadow.settled hs a.shape) cut

-- some handles with a least cut of them
pub record HasOut (log : List WordMap) (a : Account) : Type 0 where
  pub handles : List Stopped
  pub cut : List ℕ
  pub are : AreCut log a handles cut

-- by whichever least cut the batch that is out will be committed, there are calls that led to this account; and there
-- is such a cut
pub record IsLed (log : List WordMap) (a : Account) : Type 0 where
  pub some : a.aborted ≡ false → HasOut log a
  pub led : (hs : List Stopped) (cut : List ℕ) → (a.aborted ≡ false → AreCut log a hs cut) → Led log a hs cut

-- ---- a book beside the history

-- a book and the history of its stops
pub record Registered : Type 0 where
  pub book : Account
  pub log : List WordMap

-- this book and this history
abbrev pub registered : Account → List WordMap → Registered
registered a log = record { book = a; log = log }

-- The open handle of the seat, which had this holder, joins the queue under the next ticket, and its words the history.
-- One more is made for the token then, which had these entries
pub record Queues {T : Type 0} (seat : ℕ) (holder : T) (words : WordMap) (old : Registered) (made : List (ℕ × WordMap))
    (given : T × ℕ) (new : Registered) (more : List (ℕ × WordMap)) : Type 0 where
  pub could : CanStop old.book seat words
  pub queued_as : new.book ≡ queued seat words old.book
  pub same_holder : given.0 ≡ holder
  pub next : given.1 ≡ old.book.shadow.next
  pub few : given.1 ≤ 2 ^ 61
  pub log : new.log ≡ old.log ++ words ∷ []
  pub made_one : more ≡ made ++ (given.1, words) ∷ []

-- the history has the book's stops with all that they touched, and calls led to the book
pub record IsRegistered (a : Account) (log : List WordMap) : Type 0 where
  pub counted : length log ≡ a.shadow.next
  pub touched : a.changes ≡ changes_in log
  pub queued : All (IsInHistory log) a.shadow.queue
  pub led : IsLed log a

-- the entries are those of the first groups of a batch that is in the history that was seen, and that ends at this
-- ticket
pub record IsSettling (prefix : List WordMap) (end : ℕ) (shape : Shape) (done : Done) : Type 0 where
  pub planned : Planned
  pub is : IsPlanned planned
  pub shape_is : planned.batch.shape ≡ shape
  pub tickets : TicketsFrom planned.batch.first planned.batch.handles
  pub recorded : All (IsInHistory prefix) planned.batch.handles
  pub first : first_ticket done ≡ planned.batch.first
  pub past : end ≡ planned.batch.first + length planned.batch.handles
  pub tells : AreOfFirst (pieces planned.groups planned.batch.handles) (entries_of done)

-- the batch that is out has these tickets and this shape
pub record IsOutAs (a : Account) (first end : ℕ) (shape : Shape) : Type 0 where
  pub first_is : first ≡ a.shadow.settled
  pub end_is : end ≡ a.shadow.taken
  pub shape_is : a.shape ≡ shape

-- the batch that is out is settled whole; where these groups are not all of it, the book has failed
abbrev pub SettlesOrFails : ℕ → Shape → Done → Account → Result (Unit {0}) WrongBatch → Account → Type 0
SettlesOrFails end shape done old (Ok unit) new =
    IsOutAs old (first_ticket done) end shape × Settles old end (entries_of done)
    × (new ≡ settled_to end (entries_of done) old)
SettlesOrFails end shape done old (Err wrong) new =
    (IsOutAs old (first_ticket done) end shape → Settles old end (entries_of done) → ⊥) × (new ≡ failed_of old)

-- these groups of the batch that is out are settled, where they are its first ones, and then the book has failed
abbrev pub FailsAfter : ℕ → Shape → Done → Account → Result (Unit {0}) WrongBatch → Account → Type 0
FailsAfter end shape done old (Ok unit) new =
    IsOutAs old (first_ticket done) end shape
    × ((past : ℕ) × Settles old past (entries_of done) × (new ≡ failed_of (settled_to past (entries_of done) old)))
FailsAfter end shape done old (Err wrong) new =
    (IsOutAs old (first_ticket done) end shape → (past : ℕ) → Settles old past (entries_of done) → ⊥)
    × (new ≡ failed_of old)

-- ---- what is known of a book once it ends

-- There is a list of events, each of which the machine of handles has accepted, in a journal of this shape. The handles
-- that stopped in it are the history, in this order; and the groups that are settled in it are those of the whole
-- trail, of which these entries are left: each has the handles whose tickets its entry has
pub record IsMachineRun (shape : Shape) (log : List WordMap) (trail : List Entry) : Type 0 where
  pub events : EventLog
  pub machine : Machine
  pub ran : RanFromStart shape events machine
  pub accepted : AreAccepted events
  pub one_life : machine.earlier ≡ 0
  pub stops : words_stopped (handles_of_order (stop_order events)) ≡ log
  pub full : List Entry
  pub left : IsRestOf trail full
  pub settled : machine.settled ≡ map (handles_in (handles_of_order (stop_order events))) full
