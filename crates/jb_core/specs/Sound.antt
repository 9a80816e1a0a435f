-- What holds of the machine between any two events.
use Rattle.std.specs.Prelude.{◌≡◌, ℕ, ◌+◌, ◌^◌, ◌≤◌, true, false, List, [], ◌++◌, length, All}
use Rattle.std.specs.Map.{values_of}
use Rattle.jb_handle.specs.declared.shape.Shape.{Shape}
use Rattle.jb_handle.specs.declared.stopped.Stopped.{Stopped}
use Rattle.jb_handle.specs.HeldChanges.{Held, Fits, IsKept}
use Rattle.jb_handle.specs.Tickets.{TicketsFrom}
use Rattle.jb_cost.specs.Credits.{IsMost, Covers}
use Rattle.jb_cost.specs.Pieces.{joined}
use Rattle.jb_core.specs.Lives.{settled_now}
use Rattle.jb_core.specs.Machine.{Machine, reserved}

-- the handles that are taken or queued, in the order of their stops
abbrev pub waiting : Machine → List Stopped
waiting m = joined m.taken ++ m.queue

-- the handles that stopped in the current life and were not lost, in the order of their stops
abbrev pub stopped_now : Machine → List Stopped
stopped_now m = settled_now m ++ waiting m

-- an open handle has no more credits than the most, and its words are within them and fit the shape
pub record IsGranted (shape : Shape) (most : ℕ) (h : Held) : Type 0 where
  pub few : h.credits ≤ most
  pub same_shape : h.shape ≡ shape
  pub kept : IsKept h

-- a machine that is down has only settled groups
pub record HasOnlySettled (m : Machine) : Type 0 where
  pub handles : m.handles ≡ []
  pub taken : m.taken ≡ []
  pub queue : m.queue ≡ []
  pub credits : m.credits ≡ []

-- what holds of a machine between events: credits within its most and its shape, tickets that count up, and nothing
-- that waits while it is down
pub record IsMachineSound (m : Machine) : Type 0 where
  pub most : IsMost m.geometry m.shape.limit m.most
  pub granted : All (IsGranted m.shape m.most) (values_of m.handles)
  -- the same of the taken and of the queued handles
  pub few : All (λ credits. credits ≤ m.most) m.credits
  pub covered : Covers m.credits (waiting m)
  pub fits : All (λ h. Fits m.shape h.words) (waiting m)
  pub room : reserved m ≤ 2147483646
  pub tickets : m.next + length m.handles ≤ 2 ^ 61
  -- the tickets of the current life are 0, 1 and so on, up to the next one
  pub numbered : TicketsFrom 0 (stopped_now m)
  pub counted : m.up ≡ true → length (stopped_now m) ≡ m.next
  pub lives : m.earlier ≤ length m.settled
  pub home : m.checkpointed ≤ length m.settled
  pub down : m.up ≡ false → HasOnlySettled m
