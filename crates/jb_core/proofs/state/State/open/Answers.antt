use Rattle.std.proofs.Common.{rules, ◌≡◌, ◌+◌, None, arith}
use Rattle.jb_core.specs.Machine.{handle_at, reserved, after_event}
use Rattle.jb_core.specs.State.{machine_of}
use Rattle.jb_core.specs.declared.event.Event.TheVariants.{Open}
use Rattle.jb_core.proofs.SoundRuns.{kept-after}
use Rattle.jb_core.proofs.SoundEvents.{open-reserved}
use Rattle.jb_core.proofs.state.State.open.Goals as goal

pub invariant_of-self : goal.invariant_of-self
invariant_of-self c =
    let none : handle_at (machine_of c.self.inside) c.args.seat ≡ None = search rules in
    let more = open-reserved (machine_of c.self.inside) c.args.seat c.args.credits none in
    let counted : c.self.inside.reserved + c.from.result ≡ reserved (after_event (machine_of c.self.inside) (Open c.args.seat c.args.credits)) = omega (arith, more, c.self.invariant.counted, c.from.ensures) in
    kept-after (Open c.args.seat c.args.credits) c.self.invariant c.self.view_is c.requires (search rules) tt (search rules) counted c.insert.ensures.ordered
