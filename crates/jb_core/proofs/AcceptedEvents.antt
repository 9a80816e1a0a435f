-- What an accepted event shows of the machine.
use Rattle.std.proofs.Common.{◌≡◌, ℕ, Bool, true, false, not, ◌==◌, List, [], ◌∷◌, length, Option, Some, None, is_some, is_none, sym, refl, ap, ◌∙◌, ◌≤◌, arith, unwrap_or}
use Rattle.std.proofs.lemmas.Bool.Decides.{nat_tests}
use Rattle.std.specs.FinMap as map
use Rattle.jb_handle.specs.HeldChanges.{Held, held, first_of}
use Rattle.jb_core.specs.declared.event.Event.{Event}
use Rattle.jb_core.specs.declared.event.Event.TheVariants.{Restart}
use Rattle.jb_core.specs.declared.event.CoreFault.TheVariants.{Down, Empty, BatchOut}
use Rattle.jb_handle.specs.declared.shape.Shape.{Shape}
use Rattle.jb_core.specs.MachineRuns.{IsNewMachine}
use Rattle.jb_core.specs.Machine.{Machine, handle_at, held_at, event_refusal, refusal_by, refusal_up, refusal_down, refusal_take}

pub found-none : {A : Type 0} (found : Option A) → is_some found ≡ false → found ≡ None
found-none None is = refl
found-none (Some x) is = absurd (let h : ⊥ = cc in h)

pub found-some : {A : Type 0} (found : Option A) → is_none found ≡ false → (x : A) × (found ≡ Some x)
found-some None is = absurd (let h : ⊥ = cc in h)
found-some (Some x) is = (x, refl)

pub none-left : {A : Type 0} (xs : List A) → length xs ≤ 0 → xs ≡ []
none-left [] le = refl
none-left (x ∷ xs) le = absurd (let h : ⊥ = omega arith in h)

-- where nothing refuses, the first test fails, and so do the others
pub first-false : {F : Type 0} (a : Bool) (x : F) (rest : List (Bool × F)) → first_of ((a, x) ∷ rest) ≡ None → (a ≡ false) × (first_of rest ≡ None)
first-false true x rest is = absurd (let h : ⊥ = cc in h)
first-false false x rest is = (refl, is)

-- no group is out where a Take is not refused
pub none-taken : (m : Machine) → refusal_take m ≡ None → m.taken ≡ []
none-taken m none =
    let full = first-false (length m.queue == 0) Empty _ none in
    let out = (first-false (not (length m.taken == 0)) BatchOut [] full.1).0 in
    none-left m.taken (let empty : length m.taken ≡ 0 = grind (arith, nat_tests) in omega arith)

-- only a machine that is up accepts an event other than Restart
pub accepted : (m : Machine) (e : Event) → refusal_down e ≡ Some Down → event_refusal m e ≡ None → (m.up ≡ true) × (refusal_up m e ≡ None)
accepted m e other none =
    elim m.up as (λ b. m.up ≡ b → refusal_by b m e ≡ None → (m.up ≡ true) × (refusal_up m e ≡ None)) [
      | true ↦ λ up is. (up, is)
      | false ↦ λ down is. let both : Some Down ≡ None = sym other ∙ is in absurd (let h : ⊥ = cc in h)
    ] refl none

-- only one that is down accepts Restart
pub restarted : (m : Machine) → event_refusal m Restart ≡ None → m.up ≡ false
restarted m none =
    elim m.up as (λ b. m.up ≡ b → refusal_by b m Restart ≡ None → m.up ≡ false) [
      | true ↦ λ up is. absurd (let h : ⊥ = cc in h)
      | false ↦ λ down is. down
    ] refl none

pub still-up : {A : Type 0} (b : Bool) → b ≡ true → b ≡ false → A
still-up b up down = let both : true ≡ false = sym up ∙ down in absurd (let h : ⊥ = cc in h)

pub there-at : (m : Machine) (seat : ℕ) (h : Held) → handle_at m seat ≡ Some h → held_at m seat ≡ h
there-at m seat h there = ap (λ found. unwrap_or found (held 0 m.shape map.empty)) there

-- a machine that has done nothing, and the new one
abbrev pub new_of : Machine → Machine
new_of m = record m { up = true; handles = []; queue = []; taken = []; settled = []; earlier = 0; checkpointed = 0; next = 0; credits = [] }

pub new-is : (shape : Shape) (m : Machine) → IsNewMachine shape m → new_of m ≡ m
new-is shape m start = sym (λ i. record m {
  up = start.up i;
  handles = start.handles i;
  queue = start.queue i;
  taken = start.taken i;
  settled = start.settled i;
  earlier = start.earlier i;
  checkpointed = start.checkpointed i;
  next = start.next i;
  credits = start.credits i;
})
