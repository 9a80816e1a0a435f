-- Calls of a book, one after the other, and what they say of its handles: which stopped, and which groups were settled.
use Rattle.std.specs.Prelude.{◌≡◌, ℕ, ◌+◌, true, false, List, [], ◌∷◌, ◌++◌, map, length, take, drop, slice_range, None}
use Rattle.std.specs.Prelude.{Result, Ok, Err}
use Rattle.jb_handle.specs.declared.shape.Shape.{Shape}
use Rattle.jb_handle.specs.declared.stopped.Stopped.{Stopped}
use Rattle.jb_handle.specs.Tickets.{TicketsFrom}
use Rattle.jb_handle.specs.Word.{WordMap}
use Rattle.jb_cost.specs.Cut.{IsLeastCut}
use Rattle.jb_cost.specs.Pieces.{joined, pieces}
use Rattle.jb_plan.specs.Batch.{Gathered, gathered}
use Rattle.jb_plan.specs.Costs.{cost_in, HasCut}
use Rattle.jb_deck.specs.declared.done.Entry.{Entry}
use Rattle.jb_book.specs.declared.fault.BeginFault.{BeginFault}
use Rattle.jb_book.specs.declared.fault.EnqueueFault.{EnqueueFault}
use Rattle.jb_book.specs.declared.fault.WrongBatch.{WrongBatch}
use Rattle.jb_book.specs.Account.{Account, IsNewBook, granted_to, dropped_of, queued, taken_all, settled_to, failed_of}
use Rattle.jb_book.specs.Account.{begin_refusal, RefusesBegin, CanStop, RefusesStop, CanTake, Settles}

-- A call of a book with its answer: `open` of a seat and credits; `enqueue` of a seat and words, which answers a
-- ticket; `drop_open` of a seat; `take`, with the batch and the bounds of the cut by which it is committed, or without
-- one; `settle` of entries; `fail`; `shut`
pub data BookCall : Type 0 where
  Opened : ℕ → ℕ → Result (Unit {0}) BeginFault → BookCall
  Enqueued : ℕ → WordMap → Result ℕ EnqueueFault → BookCall
  Dropped : ℕ → BookCall
  Took : Gathered → List ℕ → BookCall
  TookNone : BookCall
  Settled : List Entry → Result (Unit {0}) WrongBatch → BookCall
  Failed : BookCall
  Shut : BookCall

-- ---- what the calls say by themselves; the newest call is first

-- the handles that stopped, in the order of their stops, each with the ticket that it was given
abbrev pub stops_of : List BookCall → List Stopped
stops_of [] = []
stops_of (Enqueued seat words (Ok ticket) ∷ earlier) =
    stops_of earlier ++ record { ticket = ticket; words = words } ∷ []
stops_of (other ∷ earlier) = stops_of earlier

-- the groups that are taken and not settled
abbrev pub out_of : List BookCall → List (List Stopped)
out_of [] = []
out_of (Took b cut ∷ earlier) = pieces cut b.handles
out_of (Settled entries (Ok unit) ∷ earlier) = drop (length entries) (out_of earlier)
out_of (Failed ∷ earlier) = []
out_of (other ∷ earlier) = out_of earlier

-- the groups that are settled
abbrev pub settled_of : List BookCall → List (List Stopped)
settled_of [] = []
settled_of (Settled entries (Ok unit) ∷ earlier) = settled_of earlier ++ take (length entries) (out_of earlier)
settled_of (other ∷ earlier) = settled_of earlier

-- ---- what each call makes of the book

-- the ticket that an `enqueue` answers, or its refusal
abbrev pub ticket_answered : {T B : Type 0} → Result (T × ℕ) (B × EnqueueFault) → Result ℕ EnqueueFault
ticket_answered (Ok given) = Ok given.1
ticket_answered (Err back) = Err back.1

-- entries of the first of these groups: one for each, with as many tickets as the group has handles
abbrev pub AreOfFirst : List (List Stopped) → List Entry → Type 0
AreOfFirst groups [] = Unit {0}
AreOfFirst [] (e ∷ es) = ⊥
AreOfFirst (g ∷ groups) (e ∷ es) = (e.past ≡ e.first + length g) × AreOfFirst groups es

-- the cut is a least one of the batch
abbrev pub IsCutOf : Gathered → List ℕ → Type 0
IsCutOf b cut = IsLeastCut (cost_in b.shape b.handles) b.shape.limit (length b.handles) cut

-- a batch that has a cut has a least one, so each `take` is such a call
abbrev pub TakesLeast : Type 0
TakesLeast = (b : Gathered) → HasCut b.shape b.handles → (cut : List ℕ) × IsCutOf b cut

-- What the call does to the account, as a clause of its method says (`does`). Of `settle` the clause says it where the
-- entries are those of the groups that are out, which its caller has to know
abbrev pub Does : BookCall → List BookCall → Account → Account → Type 0
Does (Opened seat credits (Ok unit)) earlier old new =
    (begin_refusal old seat credits ≡ None) × (new ≡ granted_to seat credits old)
Does (Opened seat credits (Err fault)) earlier old new = RefusesBegin old seat credits fault × (new ≡ old)
Does (Enqueued seat words (Ok ticket)) earlier old new =
    CanStop old seat words × (ticket ≡ old.shadow.next) × (new ≡ queued seat words old)
Does (Enqueued seat words (Err fault)) earlier old new = RefusesStop old seat words fault × (new ≡ old)
Does (Dropped seat) earlier old new = new ≡ dropped_of seat old
Does (Took b cut) earlier old new =
    CanTake old × (b ≡ gathered old.shadow.taken old.shadow.queue old.shape) × IsCutOf b cut × (new ≡ taken_all old)
Does TookNone earlier old new = (CanTake old → ⊥) × (new ≡ old)
Does (Settled entries (Ok unit)) earlier old new =
    ((past : ℕ) × Settles old past entries × (new ≡ settled_to past entries old)) × AreOfFirst (out_of earlier) entries
Does (Settled entries (Err wrong)) earlier old new = ((past : ℕ) → Settles old past entries → ⊥) × (new ≡ old)
Does Failed earlier old new = new ≡ failed_of old
Does Shut earlier old new = new ≡ record old { shut = true }

-- a new book, of which these calls have made this account
abbrev pub CallsMake : Shape → ℕ → List BookCall → Account → Type 0
CallsMake shape usable [] a = IsNewBook shape usable a
CallsMake shape usable (last ∷ earlier) a =
    (before : Account) × CallsMake shape usable earlier before × Does last earlier before a

-- ---- what is promised of any list of calls

-- the handles whose tickets an entry has
abbrev pub handles_in : List Stopped → Entry → List Stopped
handles_in stops e = slice_range stops e.first e.past

-- The stops have the tickets 0, 1 and so on. While the book has not failed, the settled groups, the groups that are out
-- and the queue, joined in order, are the stops, each handle whole and once; the settled ones are always a prefix of
-- them. The trail has an entry for each settled group, and its tickets are those of the group's handles
pub record KeepsWhole (shape : Shape) (calls : List BookCall) (a : Account) : Type 0 where
  pub same_shape : a.shape ≡ shape
  pub numbered : TicketsFrom 0 (stops_of calls)
  pub counted : length (stops_of calls) ≡ a.shadow.next
  pub running : a.aborted ≡ false
      → joined (settled_of calls) ++ (joined (out_of calls) ++ a.shadow.queue) ≡ stops_of calls
  pub rest : List Stopped
  pub first : joined (settled_of calls) ++ rest ≡ stops_of calls
  pub trail : settled_of calls ≡ map (handles_in (stops_of calls)) a.trail
