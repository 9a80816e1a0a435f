use Rattle.std.proofs.Common.{rules, ◌≡◌, ◌-◌, arith}
use Rattle.jb_core.specs.Machine.{reserved, after_event}
use Rattle.jb_core.specs.State.{machine_of}
use Rattle.jb_core.specs.declared.event.Event.TheVariants.{Settle}
use Rattle.jb_core.proofs.SoundRuns.{kept-after}
use Rattle.jb_core.proofs.SoundEvents.{settle-reserved}
use Rattle.jb_core.proofs.state.State.settle.Goals as goal

pub invariant_of-self : goal.invariant_of-self
invariant_of-self c =
    let parts = settle-reserved (machine_of c.self.inside) c.args.n in
    let counted : c.self.inside.reserved - c.settle.result ≡ reserved (after_event (machine_of c.self.inside) (Settle c.args.n)) = omega (arith, parts, c.self.invariant.counted, c.settle.ensures.credits) in
    kept-after (Settle c.args.n) c.self.invariant c.self.view_is c.requires (search rules) tt (search rules) counted c.self.invariant.ordered
