-- The machine: what it is made of, which events it refuses, and what the others make of it.
use Rattle.std.specs.Prelude.{ℕ, ◌+◌, ◌^◌, Bool, true, false, not, nat_lt, nat_le, ◌==◌, ◌||◌, List, [], ◌∷◌, ◌++◌}
use Rattle.std.specs.Prelude.{length, take, drop, sum, Option, Some, None, is_some, is_none}
use Rattle.std.specs.List.{sum_by}
use Rattle.std.specs.Option.{unwrap_or, option_map}
use Rattle.std.specs.Map.{values_of}
use Rattle.std.specs.FinMap as map
use Rattle.jb_handle.specs.declared.shape.Shape.{Shape}
use Rattle.jb_handle.specs.declared.stopped.Stopped.{Stopped}
use Rattle.jb_handle.specs.declared.changes.TouchFault.{TouchFault}
use Rattle.jb_handle.specs.declared.changes.TouchFault.TheVariants as touch
use Rattle.jb_handle.specs.HeldChanges.{Held, held, first_of}
use Rattle.jb_handle.specs.HeldChanges as handle
use Rattle.jb_cost.specs.declared.geometry.Geometry.{Geometry}
use Rattle.jb_cost.specs.Pieces.{pieces}
use Rattle.jb_core.specs.declared.event.Event.{Event}
use Rattle.jb_core.specs.declared.event.Event.TheVariants.{Open, Touch, Stop, Abandon, Take, Settle, Checkpoint, Crash}
use Rattle.jb_core.specs.declared.event.Event.TheVariants.{Restart}
use Rattle.jb_core.specs.declared.event.Reply.{Reply}
use Rattle.jb_core.specs.declared.event.Reply.TheVariants.{Plain, Ticket}
use Rattle.jb_core.specs.declared.event.CoreFault.{CoreFault}
use Rattle.jb_core.specs.declared.event.CoreFault.TheVariants.{Down, Up, Busy, NoHandle, TooManyCredits, Full, NoCredit}
use Rattle.jb_core.specs.declared.event.CoreFault.TheVariants.{OutOfRange, Length, Empty, BatchOut, Amount, Nothing}
use Rattle.jb_core.specs.declared.event.CoreFault.TheVariants.{Memory}
use Rattle.jb_core.specs.Line.{count}
use Rattle.jb_core.specs.Seats as seats

-- What a machine is made of. The first three never change
pub record Machine : Type 0 where
  pub shape : Shape
  pub geometry : Geometry
  -- the most credits that a handle may have
  pub most : ℕ
  pub up : Bool
  -- the open handles, by their seats
  pub handles : List (ℕ × Held)
  pub queue : List Stopped
  pub taken : List (List Stopped)
  pub settled : List (List Stopped)
  -- how many of the settled groups earlier lives settled
  pub earlier : ℕ
  -- how many of the settled groups are written home
  pub checkpointed : ℕ
  pub next : ℕ
  -- the credits of the taken and of the queued handles, in their order
  pub credits : List ℕ

-- a seat's open handle
abbrev pub handle_at : Machine → ℕ → Option Held
handle_at m seat = seats.get m.handles seat

-- a seat's open handle, or one without credits
abbrev pub held_at : Machine → ℕ → Held
held_at m seat = unwrap_or (handle_at m seat) (held 0 m.shape map.empty)

-- the credits granted to open, taken and queued handles
abbrev pub reserved : Machine → ℕ
reserved m = sum_by (λ h. h.credits) (values_of m.handles) + sum m.credits

-- no room for this many credits more, or no ticket left
abbrev pub is_full : Machine → ℕ → Bool
is_full m credits = nat_lt 2147483646 (reserved m + credits) || nat_le (2 ^ 61) (m.next + length m.handles)

-- a handle's fault, as the machine answers it
abbrev pub fault_of : TouchFault → CoreFault
fault_of (touch.NoCredit credits) = NoCredit credits
fault_of (touch.OutOfRange home) = OutOfRange home
fault_of touch.Length = Length
fault_of touch.Memory = Memory

-- the first refusal of a Take, but for that of a cut that is not least
abbrev pub refusal_take : Machine → Option CoreFault
refusal_take m = first_of ((length m.queue == 0, Empty) ∷ (not (length m.taken == 0), BatchOut) ∷ [])

-- the first refusal of an event that is not of the cut, while the machine is up
abbrev pub refusal_up : Machine → Event → Option CoreFault
refusal_up m (Open seat credits) =
    first_of ((is_some (handle_at m seat), Busy) ∷ (nat_lt m.most credits, TooManyCredits m.most)
    ∷ (is_full m credits, Full (reserved m)) ∷ [])
refusal_up m (Touch seat op) =
    first_of ((is_none (handle_at m seat), NoHandle)
    ∷ (
      is_some (handle.refusal (held_at m seat) op),
      unwrap_or (option_map fault_of (handle.refusal (held_at m seat) op)) NoHandle,
    ) ∷ [])
refusal_up m (Stop seat) = first_of ((is_none (handle_at m seat), NoHandle) ∷ [])
refusal_up m (Abandon seat) = first_of ((is_none (handle_at m seat), NoHandle) ∷ [])
refusal_up m (Take bounds) = refusal_take m
refusal_up m (Settle n) = first_of ((nat_lt (length m.taken) n, Amount) ∷ [])
refusal_up m Checkpoint = first_of ((nat_le (length m.settled) m.checkpointed, Nothing) ∷ [])
refusal_up m (Crash n) = first_of ((nat_lt (length m.taken) n, Amount) ∷ [])
refusal_up m Restart = Some Up

-- while it is down, every event but Restart is refused
abbrev pub refusal_down : Event → Option CoreFault
refusal_down Restart = None
refusal_down other = Some Down

-- the first refusal of an event, but for that of a cut that is not least
abbrev pub refusal_by : Bool → Machine → Event → Option CoreFault
refusal_by true m event = refusal_up m event
refusal_by false m event = refusal_down event

-- the first refusal of an event by a machine, but for that of a cut that is not least
abbrev pub event_refusal : Machine → Event → Option CoreFault
event_refusal m event = refusal_by m.up m event

-- the handle of a seat as it joins the queue
abbrev pub stopped_at : Machine → ℕ → Stopped
stopped_at m seat = record { ticket = m.next; words = (held_at m seat).words }

-- after the queue's pieces between the bounds were taken
abbrev pub after_take : Machine → List ℕ → Machine
after_take m bounds = record m { queue = []; taken = pieces bounds m.queue }

-- what an event that is not refused makes of the machine
abbrev pub after_event : Machine → Event → Machine
after_event m (Open seat credits) = record m { handles = seats.set m.handles seat (held credits m.shape map.empty) }
after_event m (Touch seat op) = record m { handles = seats.change m.handles seat (handle.after (held_at m seat) op) }
after_event m (Stop seat) = record m {
  handles = seats.drop m.handles seat;
  queue = m.queue ++ stopped_at m seat ∷ [];
  credits = m.credits ++ (held_at m seat).credits ∷ [];
  next = m.next + 1;
}
after_event m (Abandon seat) = record m { handles = seats.drop m.handles seat }
after_event m (Take bounds) = after_take m bounds.items
after_event m (Settle n) =
    record m {
      taken = drop n m.taken;
      settled = m.settled ++ take n m.taken;
      credits = drop (count (take n m.taken)) m.credits;
    }
after_event m Checkpoint = record m { checkpointed = m.checkpointed + 1 }
after_event m (Crash n) =
    record m { up = false; handles = []; queue = []; taken = []; settled = m.settled ++ take n m.taken; credits = [] }
after_event m Restart = record m { up = true; next = 0; earlier = length m.settled; checkpointed = length m.settled }

-- what it answers
abbrev pub reply_of : Machine → Event → Reply
reply_of m (Stop seat) = Ticket m.next
reply_of m other = Plain
