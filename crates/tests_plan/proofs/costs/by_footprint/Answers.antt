use Rattle.std.proofs.Common.{◌≡◌, ◌-◌, ◌<◌, ◌^◌, ◌≤◌, ◌∷◌, suc, length, drop, subst, arith}
use Rattle.jb_handle.specs.Size.{weight}
use Rattle.jb_cost.proofs.Costs.{weight-from}
use Rattle.jb_cost.proofs.Footprints.{room-left}
use Rattle.tests_plan.proofs.costs.by_footprint.Goals as goal

pub add_left-requires : goal.add_left-requires
add_left-requires c =
    let place = c.loop-start.start - 1 in
    let inside : place < length c.args.handles.now = omega arith in
    let next : suc place ≡ c.loop-start.start = omega arith in
    let within : weight (c.index-handles-start.result ∷ drop (suc place) c.args.handles.now) ≤ 2 ^ 62 = omega (arith, weight-from c.args.handles.now place c.index-handles-start.result c.index-handles-start.is inside, c.requires.size) in
    record { room = room-left c.args.geometry (drop c.loop-start.start c.args.handles.now) c.loop-start.footprint c.loop-start.invariant c.index-handles-start.result (subst (λ n. weight (c.index-handles-start.result ∷ drop n c.args.handles.now) ≤ 2 ^ 62) next within) }
