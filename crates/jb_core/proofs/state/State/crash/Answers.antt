use Rattle.std.proofs.Common.{rules, refl}
use Rattle.jb_core.specs.Machine.{after_event}
use Rattle.jb_core.specs.State.{machine_of}
use Rattle.jb_core.specs.declared.event.Event.TheVariants.{Crash}
use Rattle.jb_core.proofs.SoundRuns.{kept-by}
use Rattle.jb_core.proofs.SoundEvents.{crash-sound}
use Rattle.jb_core.proofs.state.State.crash.Goals as goal

pub invariant_of-self : goal.invariant_of-self
invariant_of-self c = kept-by _ (after_event (machine_of c.self.inside) (Crash c.args.n)) (search rules) (crash-sound (machine_of c.self.inside) c.self.invariant.sound c.args.n) refl c.clear.ensures.ordered
