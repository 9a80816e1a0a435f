-- An event that a sound machine accepts moves its shadow by the event's function.
use Rattle.std.proofs.Common.{◌≡◌, ℕ, ◌+◌, Bool, List, [], ◌∷◌, ◌++◌, map, length, drop, take, Option, Some, None, Result, Ok, Err, sym, refl, ap, ◌∙◌, arith, length-append, take-append-drop, unwrap_or, option_map, nat_cmp}
use Rattle.std.proofs.Math.Seq.{drop-length}
use Rattle.std.specs.BTreeMap.{insert_entry, is_at}
use Rattle.std.specs.Map.{lookup, set_value, remove_entry}
use Rattle.std.specs.FinMap as map_of
use Rattle.jb_handle.specs.declared.shape.Shape.{Shape}
use Rattle.jb_handle.specs.HeldChanges.{Held, held}
use Rattle.jb_handle.specs.HeldChanges as handle
use Rattle.jb_cost.specs.Pieces.{joined, pieces}
use Rattle.jb_cost.proofs.ListPieces.{joined-append, cut-joined}
use Rattle.jb_core.specs.declared.event.Event.{Event}
use Rattle.jb_core.specs.declared.event.Event.TheVariants.{Open, Touch, Stop, Abandon, Take, Settle, Checkpoint, Crash, Restart}
use Rattle.jb_core.specs.declared.event.Reply.{Reply}
use Rattle.jb_core.specs.declared.event.CoreFault.{CoreFault}
use Rattle.jb_core.specs.declared.event.CoreFault.TheVariants.{NoHandle}
use Rattle.jb_core.specs.Line.{count}
use Rattle.jb_core.specs.Lives.{settled_now}
use Rattle.jb_core.specs.Machine.{Machine, handle_at, held_at, event_refusal, after_event}
use Rattle.jb_core.specs.Sound.{IsMachineSound}
use Rattle.jb_core.specs.Steps.{MachineSteps, IsLeast}
use Rattle.jb_core.proofs.AcceptedEvents.{found-some, first-false, none-taken, accepted, restarted, there-at}
use Rattle.jb_core.proofs.SettledGroups.{more-settled}
use Rattle.jb_book.specs.Events.{granted_in, shadow_of, after_shadow, StepsShadow}

-- ---- the seats

map-insert : (es : List (ℕ × Held)) (k : ℕ) (v : Held) → map granted_in (insert_entry nat_cmp es k v) ≡ insert_entry nat_cmp (map granted_in es) k v.credits
map-insert [] k v = refl
map-insert (e ∷ es) k v = let rest = map-insert es k v in grind (arith, rest)

map-remove : (test : ℕ → Bool) (es : List (ℕ × Held)) → map granted_in (remove_entry test es) ≡ remove_entry test (map granted_in es)
map-remove test [] = refl
map-remove test (e ∷ es) = let rest = map-remove test es in grind (arith, rest)

map-set : (test : ℕ → Bool) (es : List (ℕ × Held)) (w h : Held) → lookup test es ≡ Some h → w.credits ≡ h.credits → map granted_in (set_value test es w) ≡ map granted_in es
map-set test [] w h there same = refl
map-set test (e ∷ es) w h there same = grind (arith, map-set test es w h)

pub lookup-map : (test : ℕ → Bool) (es : List (ℕ × Held)) → lookup test (map granted_in es) ≡ option_map (λ (h : Held). h.credits) (lookup test es)
lookup-map test [] = refl
lookup-map test (e ∷ es) = let rest = lookup-map test es in grind (arith, rest)

-- the credits of a seat, or none
found-credits : (shape : Shape) (found : Option Held) → unwrap_or (option_map (λ (h : Held). h.credits) found) 0 ≡ (unwrap_or found (held 0 shape map_of.empty)).credits
found-credits shape None = refl
found-credits shape (Some h) = refl

-- ---- the groups

pub count-parts : {A : Type 0} (n : ℕ) (gs : List (List A)) → length (joined (take n gs)) + length (joined (drop n gs)) ≡ length (joined gs)
count-parts n gs = sym (length-append (joined (take n gs)) (joined (drop n gs))) ∙ ap length (sym (joined-append (take n gs) (drop n gs)) ∙ ap joined (take-append-drop n gs))

settled-count : (m : Machine) → IsMachineSound m → (n : ℕ) → length (joined (drop m.earlier (m.settled ++ take n m.taken))) ≡ length (settled_now m) + count (take n m.taken)
settled-count m sound n = ap length (more-settled m sound.lives n) ∙ length-append (settled_now m) (joined (take n m.taken))

-- ---- the events

pub shadowed : (m : Machine) → IsMachineSound m → (e : Event) → event_refusal m e ≡ None → IsLeast m e → shadow_of (after_event m e) ≡ after_shadow m e (shadow_of m)
shadowed m sound (Open seat credits) none least = ap (λ es. record (shadow_of m) { seats = es }) (map-insert m.handles seat (held credits m.shape map_of.empty))
shadowed m sound (Touch seat op) none least =
    let is = accepted m (Touch seat op) refl none in
    let found = found-some (handle_at m seat) (first-false _ NoHandle _ is.1).0 in
    ap (λ es. record (shadow_of m) { seats = es }) (map-set (is_at (nat_cmp seat)) m.handles (handle.after (held_at m seat) op) found.0 found.1 (ap (λ (h : Held). h.credits) (there-at m seat found.0 found.1)))
shadowed m sound (Stop seat) none least =
    let credits : (held_at m seat).credits ≡ unwrap_or (lookup (is_at (nat_cmp seat)) (map granted_in m.handles)) 0 =
    sym (ap (λ found. unwrap_or found 0) (lookup-map (is_at (nat_cmp seat)) m.handles) ∙ found-credits m.shape (handle_at m seat)) in
    λ i. record {
      seats = map-remove (is_at (nat_cmp seat)) m.handles i;
      queue = (after_event m (Stop seat)).queue;
      credits = m.credits ++ credits i ∷ [];
      settled = length (settled_now m);
      taken = length (settled_now m) + count m.taken;
      next = m.next + 1;
    }
shadowed m sound (Abandon seat) none least = ap (λ es. record (shadow_of m) { seats = es }) (map-remove (is_at (nat_cmp seat)) m.handles)
shadowed m sound (Take bounds) none least =
    let is = accepted m (Take bounds) refl none in
    let free = none-taken m is.1 in
    let all : length (joined (pieces bounds.items m.queue)) ≡ length m.queue = ap length (cut-joined bounds.items m.queue least.fitting.cut) in
    let empty : count m.taken ≡ 0 = ap count free in
    let same : length (settled_now m) + count (pieces bounds.items m.queue) ≡ length (settled_now m) + count m.taken + length m.queue = omega (arith, all, empty) in
    ap (λ n. record (shadow_of m) { queue = []; taken = n }) same
shadowed m sound (Settle n) none least =
    let parts = count-parts n m.taken in
    let done = settled-count m sound n in
    let same : length (joined (drop m.earlier (m.settled ++ take n m.taken))) + count (drop n m.taken) ≡ length (settled_now m) + count m.taken = omega (arith, parts, done) in
    λ i. record (shadow_of (after_event m (Settle n))) { settled = done i; taken = same i }
shadowed m sound Checkpoint none least = refl
shadowed m sound (Crash n) none least =
    let done = settled-count m sound n in
    let same : length (joined (drop m.earlier (m.settled ++ take n m.taken))) + 0 ≡ length (settled_now m) + count (take n m.taken) = omega (arith, done) in
    λ i. record (shadow_of (after_event m (Crash n))) { settled = done i; taken = same i }
shadowed m sound Restart none least =
    let bare = sound.down (restarted m none) in
    rw (drop-length m.settled, bare.handles, bare.taken, bare.queue, bare.credits) refl

-- so does a step
pub stepped : (e : Event) (m n : Machine) (answer : Result Reply CoreFault) → IsMachineSound m → MachineSteps e m answer n → StepsShadow e m answer n
stepped e m n (Ok reply) sound step = ap shadow_of step.2 ∙ shadowed m sound e step.0 step.1
stepped e m n (Err fault) sound step = ap shadow_of step.1
