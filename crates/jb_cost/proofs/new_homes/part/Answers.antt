use Rattle.std.proofs.Common.{◌<◌, ◌∙◌, length, arith}
use Rattle.jb_cost.proofs.MeetHomes.{part-next}
use Rattle.jb_cost.proofs.new_homes.part.Goals as goal

pub loop-home-preserved : goal.loop-home-preserved
loop-home-preserved c q =
    let inside : c.loop-home.home-index < length c.args.fresh.now = omega arith in
    c.remove.ensures.updates.0 q ∙ part-next c.args.fresh.now c.loop-home.home-index inside q _ _ (c.loop-home.invariant q)
