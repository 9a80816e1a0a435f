use Rattle.std.proofs.Common.{rules, ◌≡◌, Some, arith}
use Rattle.jb_core.specs.Machine.{handle_at, reserved, after_event}
use Rattle.jb_core.specs.State.{machine_of}
use Rattle.jb_core.specs.declared.event.Event.TheVariants.{Stop}
use Rattle.jb_core.proofs.SoundRuns.{kept-after}
use Rattle.jb_core.proofs.SoundEvents.{stop-reserved}
use Rattle.jb_core.proofs.state.State.stop.Goals as goal

pub invariant_of-self-2 : goal.invariant_of-self-2
invariant_of-self-2 c =
    let there : handle_at (machine_of c.self.inside) c.args.seat ≡ Some c.in-Some.changes = search rules in
    let same = stop-reserved (machine_of c.self.inside) c.args.seat c.in-Some.changes there in
    let counted : c.self.inside.reserved ≡ reserved (after_event (machine_of c.self.inside) (Stop c.args.seat)) = omega (arith, same, c.self.invariant.counted) in
    kept-after (Stop c.args.seat) c.self.invariant c.self.view_is c.requires (search rules) tt (search rules) counted c.remove.ensures.ordered
