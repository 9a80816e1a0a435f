use Rattle.std.proofs.Common.{rules, ◌≡◌, true, List, [], length, ap, subst, ◌∙◌, arith}
use Rattle.jb_handle.specs.declared.stopped.Stopped.{Stopped}
use Rattle.jb_cost.specs.Cut.{IsCut, IsLeastCut, piece_cost}
use Rattle.jb_core.specs.Machine.{Machine, after_take}
use Rattle.jb_core.specs.State.{machine_of}
use Rattle.jb_core.proofs.AcceptedEvents.{none-left}
use Rattle.jb_core.proofs.SoundEvents.{take-sound}
use Rattle.jb_core.proofs.SoundRuns.{kept-by, queue-size}
use Rattle.jb_core.proofs.state.State.take.Goals as goal

pub is_least-requires : goal.is_least-requires
is_least-requires c = let up : c.self.inside.up ≡ true = ap (λ (m : Machine). m.up) c.self.view_is ∙ c.requires in record { size = rw c.queue-2.ensures (queue-size (machine_of c.self.inside) c.self.invariant.sound up) }

pub invariant_of-self-2 : goal.invariant_of-self-2
invariant_of-self-2 c =
    let up : c.self.inside.up ≡ true = ap (λ (m : Machine). m.up) c.self.view_is ∙ c.requires in
    let none : c.self.inside.stops.taken ≡ [] = none-left c.self.inside.stops.taken (omega (arith, c.taken.ensures, c.if-taken-gt0.false)) in
    let least : IsLeastCut (piece_cost c.self.inside.geometry c.queue-2.result.now) c.self.inside.shape.limit (length c.queue-2.result.now) c.args.bounds.now = search rules in
    let cut : IsCut (length c.self.inside.stops.queue) c.args.bounds.now = subst (λ (q : List Stopped). IsCut (length q) c.args.bounds.now) c.queue-2.ensures least.fitting.cut in
    kept-by _ (after_take (machine_of c.self.inside) c.args.bounds.now) (search rules) (take-sound (machine_of c.self.inside) c.self.invariant.sound up c.args.bounds.now none cut) c.self.invariant.counted c.self.invariant.ordered
