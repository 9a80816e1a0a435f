-- What a book has of a machine, and what each event makes of it there.
use Rattle.std.specs.Prelude.{◌≡◌, ℕ, ◌+◌, map, length, take, None, Result, Ok, Err}
use Rattle.jb_handle.specs.HeldChanges.{Held}
use Rattle.jb_core.specs.declared.event.Event.{Event}
use Rattle.jb_core.specs.declared.event.Event.TheVariants.{Open, Touch, Stop, Abandon, Take, Settle, Checkpoint, Crash}
use Rattle.jb_core.specs.declared.event.Event.TheVariants.{Restart}
use Rattle.jb_core.specs.declared.event.Reply.{Reply}
use Rattle.jb_core.specs.declared.event.CoreFault.{CoreFault}
use Rattle.jb_core.specs.Line.{count}
use Rattle.jb_core.specs.Lives.{settled_now}
use Rattle.jb_core.specs.Machine.{Machine, held_at, event_refusal, after_event}
use Rattle.jb_core.specs.Sound.{IsMachineSound}
use Rattle.jb_core.specs.Steps.{IsLeast}
use Rattle.jb_book.specs.Shadow.{Shadow, fresh, begun_at, dropped, stopped, took, settled_by, crashed}

-- a seat, and the credits of its open handle
abbrev pub granted_in : ℕ × Held → ℕ × ℕ
granted_in e = (e.0, e.1.credits)

-- the tickets and seats of a machine
abbrev pub shadow_of : Machine → Shadow
shadow_of m = record {
  seats = map granted_in m.handles;
  queue = m.queue;
  credits = m.credits;
  settled = length (settled_now m);
  taken = length (settled_now m) + count m.taken;
  next = m.next;
}

-- what an event that is not refused makes of the shadow of a machine
abbrev pub after_shadow : Machine → Event → Shadow → Shadow
after_shadow m (Open seat credits) s = begun_at seat credits s
after_shadow m (Touch seat op) s = s
after_shadow m (Stop seat) s = stopped seat (held_at m seat).words s
after_shadow m (Abandon seat) s = dropped seat s
after_shadow m (Take bounds) s = took s
after_shadow m (Settle n) s = settled_by (count (take n m.taken)) s
after_shadow m Checkpoint s = s
after_shadow m (Crash n) s = crashed (settled_by (count (take n m.taken)) s)
after_shadow m Restart s = fresh

-- an event that nothing refuses moves the shadow of a sound machine by its function
abbrev pub Shadowed : Type 0
Shadowed =
    (m : Machine) → IsMachineSound m → (e : Event) → event_refusal m e ≡ None → IsLeast m e
    → shadow_of (after_event m e) ≡ after_shadow m e (shadow_of m)

-- a step that nothing refuses moves the shadow of a sound machine by its function, and one that is refused leaves it
abbrev pub StepsShadow : Event → Machine → Result Reply CoreFault → Machine → Type 0
StepsShadow e old (Ok reply) new = shadow_of new ≡ after_shadow old e (shadow_of old)
StepsShadow e old (Err fault) new = shadow_of new ≡ shadow_of old
