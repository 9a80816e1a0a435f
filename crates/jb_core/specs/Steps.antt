-- One event on the machine, with its answer.
use Rattle.std.specs.Prelude.{◌≡◌, ℕ, false, length, List, Some, None, Result, Ok, Err}
use Rattle.std.specs.FinMap as map
use Rattle.jb_handle.specs.HeldChanges.{home_of}
use Rattle.jb_cost.specs.Cut.{IsLeastCut, piece_cost}
use Rattle.jb_core.specs.declared.event.Event.{Event}
use Rattle.jb_core.specs.declared.event.Event.TheVariants.{Open, Touch, Stop, Take}
use Rattle.jb_core.specs.declared.event.Reply.{Reply}
use Rattle.jb_core.specs.declared.event.Reply.TheVariants.{Plain}
use Rattle.jb_core.specs.declared.event.CoreFault.{CoreFault}
use Rattle.jb_core.specs.declared.event.CoreFault.TheVariants.{NotLeast, Memory}
use Rattle.jb_core.specs.Machine.{Machine, held_at, event_refusal, refusal_take, after_event, after_take, reply_of}

-- the bounds are a cut of the queue that fits the limit, and no other that fits takes fewer log blocks
abbrev pub IsLeastOf : Machine → List ℕ → Type 0
IsLeastOf m bounds = IsLeastCut (piece_cost m.geometry m.queue) m.shape.limit (length m.queue) bounds

-- a Take is of a least cut
abbrev pub IsLeast : Machine → Event → Type 0
IsLeast m (Take bounds) = IsLeastOf m bounds.items
IsLeast m other = Unit {0}

-- an event that may take memory: a handle begins, changes a home block that is new to it, or joins the queue, or the
-- queue is taken
abbrev pub Grows : Machine → Event → Type 0
Grows m (Open seat credits) = Unit {0}
Grows m (Touch seat op) = map.contains_key (held_at m seat).words (home_of op) ≡ false
Grows m (Stop seat) = Unit {0}
Grows m (Take bounds) = Unit {0}
Grows m other = ⊥

-- The fault is the first whose fact holds. Memory is no fact of the machine: it may be answered where nothing but a
-- cut that is not least refuses an event that takes memory
abbrev pub RefusesEvent : Machine → Event → CoreFault → Type 0
RefusesEvent m event Memory = Grows m event × (event_refusal m event ≡ None)
RefusesEvent m event NotLeast = (event_refusal m event ≡ None) × (IsLeast m event → ⊥)
RefusesEvent m event fault = event_refusal m event ≡ Some fault

-- an event that nothing refuses changes the machine as it does, and one that is refused leaves it
abbrev pub MachineSteps : Event → Machine → Result Reply CoreFault → Machine → Type 0
MachineSteps event old (Ok reply) new =
    (event_refusal old event ≡ None) × IsLeast old event × (new ≡ after_event old event) × (reply ≡ reply_of old event)
MachineSteps event old (Err fault) new = RefusesEvent old event fault × (new ≡ old)

-- the same of a Take, by its bounds
abbrev pub StepsTake : List ℕ → Machine → Result Reply CoreFault → Machine → Type 0
StepsTake bounds old (Ok reply) new =
    (refusal_take old ≡ None) × IsLeastOf old bounds × (new ≡ after_take old bounds) × (reply ≡ Plain)
StepsTake bounds old (Err Memory) new = (refusal_take old ≡ None) × (new ≡ old)
StepsTake bounds old (Err NotLeast) new = ((refusal_take old ≡ None) × (IsLeastOf old bounds → ⊥)) × (new ≡ old)
StepsTake bounds old (Err fault) new = (refusal_take old ≡ Some fault) × (new ≡ old)
