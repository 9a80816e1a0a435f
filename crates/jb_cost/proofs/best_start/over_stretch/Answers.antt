use Rattle.std.proofs.Common.{arith}
use Rattle.jb_cost.proofs.StretchSearch.{goes-earlier, stretch-over, stretch-sums, stretch-best, room-one}
use Rattle.jb_cost.proofs.best_start.over_stretch.Goals as goal

pub plus-tally-requires : goal.plus-tally-requires
plus-tally-requires c =
    let is = c.requires.walk.0 in
    room-one c.args.owned.now c.args.walk.low _ _ c.requires.walk.1 is.within (omega (arith, is.copies)) (omega (arith, is.frees)) c.requires.few

pub cost-cost-requires : goal.cost-cost-requires
cost-cost-requires c =
    let is = c.requires.walk.0 in
    let room = room-one c.args.owned.now c.args.walk.low c.args.walk.tally.copies.entries c.args.walk.tally.frees.entries c.requires.walk.1 is.within (omega (arith, is.copies)) (omega (arith, is.frees)) c.requires.few in
    omega (arith, room, c.plus-tally.ensures.copies, c.plus-tally.ensures.frees)

pub returns-then-cost-from-clause-over : goal.returns-then-cost-from-clause-over
returns-then-cost-from-clause-over c = stretch-over c.requires.walk c.plus-tally.result c.plus-tally.ensures c.args.limit (omega (arith, c.if-cost-from.true, c.from.ensures, c.cost-cost.ensures))

pub returns-clause-next : goal.returns-clause-next
returns-clause-next c =
    let stretch = c.stretch-stretch in
    let sums = stretch-sums c.requires.walk c.plus-tally.result c.plus-tally.ensures stretch.result.from stretch.ensures.back stretch.ensures.idle in
    goes-earlier sums (omega (arith, stretch.ensures.back, c.requires.walk.1)) (omega (arith, stretch.ensures.back, c.requires.walk.0.within)) stretch.ensures.idle c.plus-tally.ensures.geometry

pub returns-clause-best : goal.returns-clause-best
returns-clause-best c ps fit tried =
    let stretch = c.stretch-stretch in
    rw (c.better.ensures, c.of.ensures)
    (stretch-best c.requires.walk c.plus-tally.result c.plus-tally.ensures stretch.result.from stretch.ensures.back stretch.ensures.idle c.args.limit c.cost-cost.result c.cost-cost.ensures
    (omega (arith, c.if-cost-from.false, c.from.ensures)) ps stretch.result.least (stretch.ensures.least ps fit) tried)
