use Rattle.std.proofs.Common.{rules, ◌≡◌, ◌-◌, Some, arith}
use Rattle.jb_core.specs.Machine.{handle_at, reserved, after_event}
use Rattle.jb_core.specs.State.{machine_of}
use Rattle.jb_core.specs.declared.event.Event.TheVariants.{Abandon}
use Rattle.jb_core.proofs.SoundRuns.{kept-after}
use Rattle.jb_core.proofs.SoundEvents.{gone-reserved}
use Rattle.jb_core.proofs.state.State.abandon.Goals as goal

pub overflow_sub-self : goal.overflow_sub-self
overflow_sub-self c =
    let there : handle_at (machine_of c.self.inside) c.args.seat ≡ Some c.in-Some.changes = search rules in
    omega (arith, gone-reserved (machine_of c.self.inside) c.args.seat c.in-Some.changes there, c.self.invariant.counted, c.credits.ensures, c.from.ensures)

pub invariant_of-self : goal.invariant_of-self
invariant_of-self c =
    let there : handle_at (machine_of c.self.inside) c.args.seat ≡ Some c.in-Some.changes = search rules in
    let left = gone-reserved (machine_of c.self.inside) c.args.seat c.in-Some.changes there in
    let counted : c.self.inside.reserved - c.from.result ≡ reserved (after_event (machine_of c.self.inside) (Abandon c.args.seat)) = omega (arith, left, c.self.invariant.counted, c.credits.ensures, c.from.ensures) in
    kept-after (Abandon c.args.seat) c.self.invariant c.self.view_is c.requires (search rules) tt (search rules) counted c.remove.ensures.ordered
