-- A run leaves the machine sound, and how a state is kept.
use Rattle.std.proofs.Common.{◌≡◌, ◌+◌, ◌≤◌, true, [], ◌∷◌, None, Ok, Err, sym, refl, ap, subst, ◌∙◌, arith, length-append, nat_cmp}
use Rattle.std.proofs.lemmas.List.Elements.{All-nil}
use Rattle.std.proofs.lemmas.List.Sums.{sum_by-append}
use Rattle.std.specs.BTreeMap.{IsOrdered}
use Rattle.std.specs.FinMap as map
use Rattle.jb_handle.specs.declared.shape.Shape.{Shape}
use Rattle.jb_handle.specs.declared.stopped.Stopped.{Stopped}
use Rattle.jb_handle.specs.HeldChanges.{Fits}
use Rattle.jb_handle.specs.Size.{IsWithinSize}
use Rattle.jb_cost.specs.Credits.{IsMost}
use Rattle.jb_cost.specs.Pieces.{joined}
use Rattle.jb_cost.proofs.WithinCredits.{covers-weight}
use Rattle.jb_core.specs.declared.event.Event.{Event}
use Rattle.jb_core.specs.declared.event.Event.TheVariants.{Open, Touch, Stop, Abandon, Take, Settle, Checkpoint, Crash, Restart}
use Rattle.jb_core.specs.declared.state.State.TheInside.{Inside}
use Rattle.jb_core.specs.Lives.{EventLog, settled_now}
use Rattle.jb_core.specs.Machine.{Machine, reserved, event_refusal, refusal_by, refusal_up, after_event}
use Rattle.jb_core.specs.MachineRuns.{IsNewMachine, RanFromStart}
use Rattle.jb_core.specs.Sound.{waiting, IsGranted, IsMachineSound}
use Rattle.jb_core.specs.State.{machine_of, IsMachineKept}
use Rattle.jb_core.specs.Steps.{IsLeast}
use Rattle.jb_core.proofs.AcceptedEvents.{new-is, none-taken, accepted, restarted, still-up}
use Rattle.jb_core.proofs.SoundEvents.{open-sound, touch-sound, stop-sound, abandon-sound, take-sound, settle-sound, checkpoint-sound, crash-sound, restart-sound}

-- the planner takes any queue of a machine
pub queue-size : (m : Machine) → IsMachineSound m → m.up ≡ true → IsWithinSize m.queue
queue-size m sound up =
    let all = covers-weight m.credits (waiting m) sound.covered in
    let parts = sum_by-append (λ (g : Stopped). map.len g.words + 1) (joined m.taken) m.queue in
    let room = sound.room in
    let counted = sound.counted up in
    let longer = length-append (settled_now m) (waiting m) in
    let tickets = sound.tickets in
    omega arith

-- an event that nothing refuses leaves a sound machine sound
pub after-sound : (m : Machine) → IsMachineSound m → (e : Event) → event_refusal m e ≡ None → IsLeast m e → IsMachineSound (after_event m e)
after-sound m sound (Open seat credits) none least = let is = accepted m (Open seat credits) refl none in open-sound m sound is.0 seat credits is.1
after-sound m sound (Touch seat op) none least = let is = accepted m (Touch seat op) refl none in touch-sound m sound is.0 seat op is.1
after-sound m sound (Stop seat) none least = let is = accepted m (Stop seat) refl none in stop-sound m sound is.0 seat is.1
after-sound m sound (Abandon seat) none least = let is = accepted m (Abandon seat) refl none in abandon-sound m sound is.0 seat is.1
after-sound m sound (Take bounds) none least = let is = accepted m (Take bounds) refl none in take-sound m sound is.0 bounds.items (none-taken m is.1) least.fitting.cut
after-sound m sound (Settle n) none least = let is = accepted m (Settle n) refl none in settle-sound m sound is.0 n
after-sound m sound Checkpoint none least = let is = accepted m Checkpoint refl none in checkpoint-sound m sound is.0 is.1
after-sound m sound (Crash n) none least = crash-sound m sound n
after-sound m sound Restart none least = restart-sound m sound (restarted m none)

started : (shape : Shape) (m : Machine) → IsNewMachine shape m → IsMachineSound m
started shape m start =
    let most = subst (λ (s : Shape). IsMost m.geometry s.limit m.most) (sym start.same_shape) start.most in
    subst IsMachineSound (new-is shape m start) (record {
      most = most;
      granted = All-nil (IsGranted m.shape m.most);
      few = All-nil (λ credits. credits ≤ m.most);
      covered = tt;
      fits = All-nil (λ h. Fits m.shape h.words);
      room = omega arith;
      tickets = omega arith;
      numbered = tt;
      counted = λ _. refl;
      lives = omega arith;
      home = omega arith;
      down = still-up true refl;
    })

-- so is each machine of a run
pub sounds : (shape : Shape) (log : EventLog) (m : Machine) → RanFromStart shape log m → IsMachineSound m
sounds shape [] m start = started shape m start
sounds shape ((e, Ok reply) ∷ earlier) m (before, ran, step) = subst IsMachineSound (sym step.2) (after-sound before (sounds shape earlier before ran) e step.0 step.1)
sounds shape ((e, Err fault) ∷ earlier) m (before, ran, step) = subst IsMachineSound (sym step.1) (sounds shape earlier before ran)

-- how a state is kept, said of its machine
pub kept-by : (t : Inside) (m : Machine) → machine_of t ≡ m → IsMachineSound m → t.reserved ≡ reserved m → IsOrdered nat_cmp t.handles → IsMachineKept t
kept-by t m is sound counted ordered = record { sound = subst IsMachineSound (sym is) sound; counted = counted ∙ ap reserved (sym is); ordered = ordered }

-- the same after an event that the machine accepts while it is up
pub kept-after : {s t : Inside} {m : Machine} (e : Event) → IsMachineKept s → machine_of s ≡ m → m.up ≡ true → refusal_up (machine_of s) e ≡ None → IsLeast (machine_of s) e
    → machine_of t ≡ after_event (machine_of s) e → t.reserved ≡ reserved (after_event (machine_of s) e) → IsOrdered nat_cmp t.handles → IsMachineKept t
kept-after {s} {t} e kept is up none least after counted ordered =
    let granted = subst (λ b. refusal_by b (machine_of s) e ≡ None) (sym (ap (λ (m : Machine). m.up) is ∙ up)) none in
    kept-by t (after_event (machine_of s) e) after (after-sound (machine_of s) kept.sound e granted least) counted ordered
