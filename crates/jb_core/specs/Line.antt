-- The handles that have stopped, in line: settled in groups, taken in groups, and queued.
use Rattle.std.specs.Prelude.{◌≡◌, ℕ, Bool, List, [], ◌∷◌, ◌++◌, length, take, drop}
use Rattle.jb_handle.specs.declared.stopped.Stopped.{Stopped}
use Rattle.jb_cost.specs.Pieces.{joined, pieces}

-- what has stopped and was not lost; the credits of the handles that are not settled, in order; and whether a further
-- handle has room
pub record MachineLine : Type 0 where
  pub settled : List (List Stopped)
  pub taken : List (List Stopped)
  pub queue : List Stopped
  pub credits : List ℕ
  pub room : Bool

-- how many handles the groups have
abbrev pub count : List (List Stopped) → ℕ
count groups = length (joined groups)

-- the same handles, with room or without
pub record IsSame (old new : MachineLine) : Type 0 where
  pub settled : new.settled ≡ old.settled
  pub taken : new.taken ≡ old.taken
  pub queue : new.queue ≡ old.queue
  pub credits : new.credits ≡ old.credits

-- a handle of this many credits has come to the queue's end
pub record IsPushed (handle : Stopped) (granted : ℕ) (old new : MachineLine) : Type 0 where
  pub settled : new.settled ≡ old.settled
  pub taken : new.taken ≡ old.taken
  pub queue : new.queue ≡ old.queue ++ handle ∷ []
  pub credits : new.credits ≡ old.credits ++ granted ∷ []

-- the queue's pieces have become the taken groups
pub record IsTaken (bounds : List ℕ) (old new : MachineLine) : Type 0 where
  pub settled : new.settled ≡ old.settled
  pub taken : new.taken ≡ pieces bounds old.queue
  pub queue : new.queue ≡ []
  pub credits : new.credits ≡ old.credits

-- the first n taken groups have joined the settled ones
pub record IsSettled (n : ℕ) (old new : MachineLine) : Type 0 where
  pub settled : new.settled ≡ old.settled ++ take n old.taken
  pub taken : new.taken ≡ drop n old.taken
  pub queue : new.queue ≡ old.queue
  pub credits : new.credits ≡ drop (count (take n old.taken)) old.credits

-- the first n taken groups have joined the settled ones, and the rest is lost
pub record IsCrashed (n : ℕ) (old new : MachineLine) : Type 0 where
  pub settled : new.settled ≡ old.settled ++ take n old.taken
  pub taken : new.taken ≡ []
  pub queue : new.queue ≡ []
  pub credits : new.credits ≡ []
