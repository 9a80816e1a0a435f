use Rattle.std.proofs.Common.{rules, ◌≡◌, ℕ, true, false, ◌⊎◌, inl, inr, Some, None, Err, sym, ap, ◌∙◌, arith, nat_cmp, refl}
use Rattle.std.specs.BTreeMap.{is_at}
use Rattle.std.specs.FinMap as map
use Rattle.std.proofs.lemmas.Map.Steps.{set_value_same}
use Rattle.jb_handle.specs.declared.op.Op.{Op}
use Rattle.jb_handle.specs.declared.changes.TouchFault.{TouchFault}
use Rattle.jb_handle.specs.declared.changes.TouchFault.TheVariants.{Memory}
use Rattle.jb_handle.specs.HeldChanges.{Held, home_of, refusal, after as held_after}
use Rattle.jb_core.specs.declared.event.Event.TheVariants.{Touch}
use Rattle.jb_core.specs.Machine.{Machine, fault_of, handle_at, held_at, reserved, after_event}
use Rattle.jb_core.proofs.AcceptedEvents.{there-at}
use Rattle.jb_core.specs.State.{machine_of}
use Rattle.jb_core.specs.Steps.{RefusesEvent}
use Rattle.jb_core.proofs.SoundRuns.{kept-after, kept-by}
use Rattle.jb_core.proofs.SoundEvents.{credits_of, touch-reserved}
use Rattle.jb_core.proofs.state.State.touch.Goals as goal

-- a change that its handle refuses is refused by the machine, with the same fault
module _ (m : Machine) (seat : ℕ) (op : Op) (h : Held) (up : m.up ≡ true) (there : handle_at m seat ≡ Some h) where
  refuses : (fault : TouchFault) → (fault ≡ Memory) ⊎ (refusal h op ≡ Some fault) → (fault ≡ Memory → (refusal h op ≡ None) × (map.contains_key h.words (home_of op) ≡ false))
      → RefusesEvent m (Touch seat op) (fault_of fault)
  refuses Memory why memory = let none = memory refl in (rw there none.1, rw (up, there, none.0) refl)
  refuses fault (inl is) memory = cc
  refuses fault (inr is) memory = rw (up, there, is) refl

pub invariant_of-self-in_err-apply : goal.invariant_of-self-in_err-apply
invariant_of-self-in_err-apply c =
    let there : handle_at (machine_of c.self.inside) c.args.seat ≡ Some c.in-Some.changes.now = search rules in
    let written = c.get_mut.follows.holds c.apply.new.self in
    let same = written.0 ∙ set_value_same (is_at (nat_cmp c.args.seat)) c.self.inside.handles.entries c.apply.new.self (there ∙ ap Some (sym c.in_err-apply.ensures.err)) in
    kept-by _ (machine_of c.self.inside) (ap (λ es. record (machine_of c.self.inside) { handles = es }) same) c.self.invariant.sound c.self.invariant.counted written.4

pub returns-in_err-apply : goal.returns-in_err-apply
returns-in_err-apply c =
    let there : handle_at (machine_of c.self.inside) c.args.seat ≡ Some c.in-Some.changes.now = search rules in
    let there_now : handle_at c.args.self.now c.args.seat ≡ Some c.in-Some.changes.now = ap (λ (m : Machine). handle_at m c.args.seat) (sym c.self.view_is) ∙ there in
    let is : c.from_residual.result ≡ Err (fault_of c.in_err-apply.field-0.0) = search rules in
    let written = c.get_mut.follows.holds c.apply.new.self in
    let same = written.0 ∙ set_value_same (is_at (nat_cmp c.args.seat)) c.self.inside.handles.entries c.apply.new.self (there ∙ ap Some (sym c.in_err-apply.ensures.err)) in
    rw is (
      refuses c.args.self.now c.args.seat c.args.op c.in-Some.changes.now c.requires there_now c.in_err-apply.field-0.0 c.in_err-apply.ensures.refused c.in_err-apply.ensures.memory,
      ap (λ es. record (machine_of c.self.inside) { handles = es }) same ∙ c.self.view_is,
    )

pub invariant_of-self-2 : goal.invariant_of-self-2
invariant_of-self-2 c =
    let m = machine_of c.self.inside in
    let there : handle_at m c.args.seat ≡ Some c.in-Some.changes.now = search rules in
    let same = touch-reserved m c.args.seat c.in-Some.changes.now (held_after (held_at m c.args.seat) c.args.op) there (ap credits_of (there-at m c.args.seat c.in-Some.changes.now there)) in
    let counted : c.self.inside.reserved ≡ reserved (after_event m (Touch c.args.seat c.args.op)) = omega (arith, same, c.self.invariant.counted) in
    kept-after (Touch c.args.seat c.args.op) c.self.invariant c.self.view_is c.requires (search rules) tt (search rules) counted (c.get_mut.follows.holds c.apply.new.self).4
