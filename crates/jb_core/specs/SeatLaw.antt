-- What the words on seats say of what a seat holds.
use Rattle.std.specs.Prelude.{◌≡◌, ◌≢◌, ℕ, List, Option, Some, None}
use Rattle.jb_handle.specs.declared.shape.Shape.{Shape}
use Rattle.jb_handle.specs.HeldChanges.{Held}
use Rattle.jb_core.specs.Lives.{EventLog}
use Rattle.jb_core.specs.Machine.{Machine}
use Rattle.jb_core.specs.MachineRuns.{RanFromStart}
use Rattle.jb_core.specs.Seats.{get, set, change, drop, Once}

-- what is held after a change: the new value, if anything was held
abbrev pub changed : {V : Type 0} → Option V → V → Option V
changed None v = None
changed (Some held) v = Some v

-- after a seat was set, changed or dropped it holds that, and every other one what it held; each seat is listed once,
-- as a drop needs it
pub record AreMap (V : Type 0) : Type 0 where
  pub set_same : (es : List (ℕ × V)) (seat : ℕ) (v : V) → get (set es seat v) seat ≡ Some v
  pub set_other : (es : List (ℕ × V)) (seat other : ℕ) (v : V) → other ≢ seat → get (set es seat v) other ≡ get es other
  pub change_same : (es : List (ℕ × V)) (seat : ℕ) (v : V) → get (change es seat v) seat ≡ changed (get es seat) v
  pub change_other : (es : List (ℕ × V)) (seat other : ℕ) (v : V) → other ≢ seat
      → get (change es seat v) other ≡ get es other
  pub drop_same : (es : List (ℕ × V)) (seat : ℕ) → Once es → get (drop es seat) seat ≡ None
  pub drop_other : (es : List (ℕ × V)) (seat other : ℕ) → other ≢ seat → get (drop es seat) other ≡ get es other

-- of open handles, and of credits alone; and a machine that a run reaches lists each seat once
pub record SeatsAreMap : Type 0 where
  pub handles : AreMap Held
  pub credits : AreMap ℕ
  pub once : (shape : Shape) (log : EventLog) (m : Machine) → RanFromStart shape log m → Once m.handles
