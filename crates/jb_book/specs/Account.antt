-- What a book is as a value: what it has of the machine, what it was made with, its totals and its trail.
use Rattle.std.specs.Prelude.{◌≡◌, ℕ, ◌+◌, ◌-◌, ◌^◌, ◌<◌, ◌≤◌, ◌⊎◌, ◌||◌, if◌then◌else◌, Bool, true, false, nat_lt}
use Rattle.std.specs.Prelude.{nat_le, List, [], ◌∷◌, ◌++◌, length, drop, sum, All, Option, Some, None, is_some}
use Rattle.std.specs.List.{sum_by}
use Rattle.std.specs.Map.{values_of}
use Rattle.std.specs.FinMap as map
use Rattle.jb_handle.specs.declared.shape.Shape.{Shape}
use Rattle.jb_handle.specs.declared.stopped.Stopped.{Stopped}
use Rattle.jb_handle.specs.HeldChanges.{Fits, first_of}
use Rattle.jb_handle.specs.Tickets.{TicketsFrom}
use Rattle.jb_handle.specs.Word.{WordMap}
use Rattle.jb_cost.specs.Credits.{IsMost, Covers}
use Rattle.jb_deck.specs.declared.done.Entry.{Entry}
use Rattle.jb_plan.specs.Costs.{geometry_of}
use Rattle.jb_deck.specs.Done.{Follow, least_after, start_of}
use Rattle.jb_book.specs.declared.fault.BeginFault.{BeginFault}
use Rattle.jb_book.specs.declared.fault.BeginFault.TheVariants.{Aborted, Closed, Busy, TooManyCredits, Full, Memory}
use Rattle.jb_book.specs.declared.fault.EnqueueFault.{EnqueueFault}
use Rattle.jb_book.specs.declared.fault.EnqueueFault.TheVariants as stop
use Rattle.jb_book.specs.Shadow.{Shadow, credits_at, reserved_in, fresh, begun_at, dropped, stopped, took, settled_by}
use Rattle.jb_book.specs.Shadow.{lost}

-- what a book keeps, as a value: its seats and tickets, what it may grant, the trail, and whether it has failed
pub record Account : Type 0 where
  pub shadow : Shadow
  pub shape : Shape
  -- the most credits that may be reserved
  pub usable : ℕ
  -- the most credits that a handle may have
  pub most : ℕ
  -- the credits granted in all
  pub granted : ℕ
  -- the home blocks touched by all handles that stopped, added up
  pub changes : ℕ
  -- an entry for each group that is settled, or for the last ones of these: the last one at least
  pub trail : List Entry
  pub shut : Bool
  pub aborted : Bool

-- the home blocks that handles touched, added up
abbrev pub touched_in : List Stopped → ℕ
touched_in hs = sum_by (λ h. map.len h.words) hs

-- how many home blocks a handle that stopped has changed: it has a word for each
abbrev pub changed_by : ℕ × WordMap → ℕ
changed_by stop = map.len stop.1

-- ---- what always holds

-- while a book is not aborted: the queue has the tickets after the taken ones, up to the next one, and each handle that
-- waits has its credits, which cover its words
pub record InLine (s : Shadow) : Type 0 where
  pub tickets : TicketsFrom s.taken s.queue
  pub queued : s.taken + length s.queue ≡ s.next
  pub paired : s.settled + length s.credits ≡ s.next
  pub covered : Covers (drop (s.taken - s.settled) s.credits) s.queue

-- once it is aborted, nothing waits
pub record IsLost (s : Shadow) : Type 0 where
  pub queue : s.queue ≡ []
  pub credits : s.credits ≡ []
  pub taken : s.taken ≡ s.settled

-- what holds of an account between calls: the counts are in order, what waits is in line while it runs, and nothing
-- waits once it has failed
pub record IsAccountSound (a : Account) : Type 0 where
  pub most : IsMost (geometry_of a.shape) a.shape.limit a.most
  pub order : a.shadow.settled ≤ a.shadow.taken
  pub within : a.shadow.taken ≤ a.shadow.next
  pub running : a.aborted ≡ false → InLine a.shadow
  pub failed : a.aborted ≡ true → IsLost a.shadow
  pub seats_few : All (λ credits. credits ≤ a.most) (values_of a.shadow.seats)
  pub few : All (λ credits. credits ≤ a.most) a.shadow.credits
  pub fits : All (λ h. Fits a.shape h.words) a.shadow.queue
  pub room : reserved_in a.shadow ≤ a.usable
  pub small : a.usable ≤ 2147483646
  pub tickets : a.shadow.next + length a.shadow.seats ≤ 2 ^ 61
  pub changed : a.changes + sum (values_of a.shadow.seats) ≤ a.granted
  pub granted : a.granted ≤ 2 ^ 61
  pub counted : touched_in a.shadow.queue ≤ a.changes
  -- what is left of the trail goes up to the settled tickets; where no group was settled it is empty
  pub trail : Follow (start_of a.trail) 0 a.shadow.settled a.trail

-- ---- what each call makes of it

-- a book of which nobody has asked anything
pub record IsNewBook (shape : Shape) (usable : ℕ) (a : Account) : Type 0 where
  pub shadow : a.shadow ≡ fresh
  pub same_shape : a.shape ≡ shape
  pub same_usable : a.usable ≡ usable
  pub most : IsMost (geometry_of shape) shape.limit a.most
  pub granted : a.granted ≡ 0
  pub changes : a.changes ≡ 0
  pub trail : a.trail ≡ []
  pub shut : a.shut ≡ false
  pub aborted : a.aborted ≡ false

-- the account once this many credits were granted to a seat
abbrev pub granted_to : ℕ → ℕ → Account → Account
granted_to seat credits a = record a { shadow = begun_at seat credits a.shadow; granted = a.granted + credits }

-- the account once the open handle of a seat was given up
abbrev pub dropped_of : ℕ → Account → Account
dropped_of seat a = record a { shadow = dropped seat a.shadow }

-- the account once a seat has stopped with these words
abbrev pub queued : ℕ → WordMap → Account → Account
queued seat words a = record a { shadow = stopped seat words a.shadow; changes = a.changes + map.len words }

-- the account once all that was queued was taken
abbrev pub taken_all : Account → Account
taken_all a = record a { shadow = took a.shadow }

-- the account once its tickets are settled up to this one, by these groups
abbrev pub settled_to : ℕ → List Entry → Account → Account
settled_to past entries a =
    record a { shadow = settled_by (past - a.shadow.settled) a.shadow; trail = a.trail ++ entries }

-- the account once the journal has failed: all that was not settled is lost
abbrev pub failed_of : Account → Account
failed_of a = record a { shadow = lost a.shadow; aborted = true }

-- what is left of a trail once the entries at its front that end at this ticket or before it were taken; the last entry
-- always stays
abbrev pub trail_from : ℕ → List Entry → List Entry
trail_from past [] = []
trail_from past (e ∷ []) = e ∷ []
trail_from past (e ∷ f ∷ es) = if nat_le e.past past then trail_from past (f ∷ es) else e ∷ f ∷ es

-- the account once these were taken from its trail
abbrev pub shortened : ℕ → Account → Account
shortened past a = record a { trail = trail_from past a.trail }

-- the ticket of the first handle of the last entry, 0 where there is none
abbrev pub last_start : List Entry → ℕ
last_start [] = 0
last_start (e ∷ []) = e.first
last_start (e ∷ f ∷ es) = last_start (f ∷ es)

-- ---- what each call refuses

-- no room for this many credits more, no ticket left, or too many credits granted in all
abbrev pub has_no_room : Account → ℕ → Bool
has_no_room a credits =
    nat_lt a.usable (reserved_in a.shadow + credits) || nat_le (2 ^ 61) (a.shadow.next + length a.shadow.seats)
    || nat_lt (2 ^ 61) (a.granted + credits)

-- the first reason against a new handle
abbrev pub begin_refusal : Account → ℕ → ℕ → Option BeginFault
begin_refusal a seat credits =
    first_of ((a.aborted, Aborted) ∷ (a.shut, Closed) ∷ (is_some (credits_at a.shadow seat), Busy)
    ∷ (nat_lt a.most credits, TooManyCredits a.most) ∷ (has_no_room a credits, Full (reserved_in a.shadow)) ∷ [])

-- the fault is the first whose fact holds; memory may be refused where nothing else is
abbrev pub RefusesBegin : Account → ℕ → ℕ → BeginFault → Type 0
RefusesBegin a seat credits Memory = begin_refusal a seat credits ≡ None
RefusesBegin a seat credits fault = begin_refusal a seat credits ≡ Some fault

-- the seat has an open handle of this many credits, and the words are within them and fit the shape
pub record IsOpenFor (a : Account) (seat : ℕ) (words : WordMap) (credits : ℕ) : Type 0 where
  pub listed : credits_at a.shadow seat ≡ Some credits
  pub within : map.len words ≤ credits
  pub fits : Fits a.shape words

-- words that a seat may stop with
abbrev pub CanStop : Account → ℕ → WordMap → Type 0
CanStop a seat words = (a.aborted ≡ false) × ((credits : ℕ) × IsOpenFor a seat words credits)

-- why a seat may not stop with these words
abbrev pub RefusesStop : Account → ℕ → WordMap → EnqueueFault → Type 0
RefusesStop a seat words stop.Aborted = a.aborted ≡ true
RefusesStop a seat words stop.NotOpen = (a.aborted ≡ false) × ((credits : ℕ) → IsOpenFor a seat words credits → ⊥)
RefusesStop a seat words stop.Memory = CanStop a seat words

-- the queue may be taken: a handle waits, and no batch is out
pub record CanTake (a : Account) : Type 0 where
  pub running : a.aborted ≡ false
  pub free : a.shadow.taken ≡ a.shadow.settled
  pub some : 0 < length a.shadow.queue

-- a book that is shut, and of which no handle is open, taken or queued
abbrev pub IsOver : Account → Type 0
IsOver a = (a.shut ≡ true) × (a.shadow.seats ≡ []) × (a.shadow.credits ≡ [])

-- entries that settle taken handles up to a ticket: they go on where the settled ones end, with rising numbers
pub record Settles (a : Account) (past : ℕ) (entries : List Entry) : Type 0 where
  pub follow : Follow a.shadow.settled (least_after 0 a.trail) past entries
  pub within : past ≤ a.shadow.taken

-- some group of the trail has the ticket, and this is its number
abbrev pub IsSettledBy : List Entry → ℕ → ℕ → Type 0
IsSettledBy [] ticket number = ⊥
IsSettledBy (e ∷ es) ticket number =
    ((e.first ≤ ticket) × (ticket < e.past) × (number ≡ e.number)) ⊎ IsSettledBy es ticket number

-- the number of the group that settled a ticket; or none, where the group's entry was taken
abbrev pub AnswersNumber : Account → ℕ → Option ℕ → Type 0
AnswersNumber a ticket (Some number) = IsSettledBy a.trail ticket number
AnswersNumber a ticket None = ticket < start_of a.trail

-- some handle has the ticket, and it may yet be settled
pub record IsAwaited (a : Account) (ticket : ℕ) : Type 0 where
  pub running : a.aborted ≡ false
  pub waits : a.shadow.settled ≤ ticket
  pub given : ticket < a.shadow.next
