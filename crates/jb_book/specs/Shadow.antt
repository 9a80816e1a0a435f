-- What a book has of the machine of handles, and what each event makes of it.
use Rattle.std.specs.Prelude.{ℕ, ◌+◌, List, [], ◌∷◌, ◌++◌, length, drop, sum, Option}
use Rattle.std.specs.Option.{unwrap_or}
use Rattle.std.specs.Map.{values_of}
use Rattle.jb_handle.specs.declared.stopped.Stopped.{Stopped}
use Rattle.jb_handle.specs.Word.{WordMap}
use Rattle.jb_core.specs.Seats as seats

-- the tickets of a book and the seats that have open handles
pub record Shadow : Type 0 where
  -- the seats with an open handle, each with its credits
  pub seats : List (ℕ × ℕ)
  pub queue : List Stopped
  -- the credits of the taken and of the queued handles, in the order of their stops
  pub credits : List ℕ
  -- the tickets below it are settled
  pub settled : ℕ
  -- the tickets below it are settled or taken
  pub taken : ℕ
  -- the ticket of the next handle that stops
  pub next : ℕ

-- the credits of a seat's open handle
abbrev pub credits_at : Shadow → ℕ → Option ℕ
credits_at s seat = seats.get s.seats seat

-- the credits granted to open, taken and queued handles
abbrev pub reserved_in : Shadow → ℕ
reserved_in s = sum (values_of s.seats) + sum s.credits

-- nothing has happened
abbrev pub fresh : Shadow
fresh = record { seats = []; queue = []; credits = []; settled = 0; taken = 0; next = 0 }

-- a seat has begun a handle of this many credits
abbrev pub begun_at : ℕ → ℕ → Shadow → Shadow
begun_at seat credits s = record s { seats = seats.set s.seats seat credits }

-- a seat's open handle is dropped
abbrev pub dropped : ℕ → Shadow → Shadow
dropped seat s = record s { seats = seats.drop s.seats seat }

-- a seat's open handle has stopped, with these words
abbrev pub stopped : ℕ → WordMap → Shadow → Shadow
stopped seat words s = record s {
  seats = seats.drop s.seats seat;
  queue = s.queue ++ record { ticket = s.next; words = words } ∷ [];
  credits = s.credits ++ unwrap_or (credits_at s seat) 0 ∷ [];
  next = s.next + 1;
}

-- the queue is taken
abbrev pub took : Shadow → Shadow
took s = record s { queue = []; taken = s.taken + length s.queue }

-- the first n taken handles are settled
abbrev pub settled_by : ℕ → Shadow → Shadow
settled_by n s = record s { settled = s.settled + n; credits = drop n s.credits }

-- the taken and the queued handles are lost
abbrev pub lost : Shadow → Shadow
lost s = record s { queue = []; credits = []; taken = s.settled }

-- so are the open ones
abbrev pub crashed : Shadow → Shadow
crashed s = record (lost s) { seats = [] }
