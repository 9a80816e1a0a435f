use Rattle.std.proofs.Common.{arith}
use Rattle.jb_cost.proofs.SpanSearch.{counted-more, counted-best}
use Rattle.jb_cost.proofs.StretchSearch.{room-one, still-fit}
use Rattle.jb_cost.proofs.shortcuts.Shortcuts.counted.Goals as goal

pub plus-sum-requires : goal.plus-sum-requires
plus-sum-requires c =
    let so_far = c.loop-low.invariant.counted in
    let room = room-one c.args.owned.now c.loop-low.low c.loop-low.sum.copies c.loop-low.sum.frees (omega arith) (omega (arith, so_far.within, c.requires.inside.1)) (omega (arith, so_far.copies_are)) (omega (arith, so_far.frees_are)) c.requires.few in
    record { copies = omega (arith, room); frees = omega (arith, room) }

pub loop-low-preserved : goal.loop-low-preserved
loop-low-preserved c =
    let so_far = c.loop-low.invariant in
    let stretch = c.stretch-stretch in
    record {
      fit = still-fit _ _ c.loop-low.self _ so_far.fit stretch.ensures.fit;
      counted = rw (c.better-least.ensures, c.of.ensures)
          (counted-more so_far.counted c.requires.inside c.loop-low-test.true c.plus-sum.result c.plus-sum.ensures stretch.result.from stretch.ensures.back stretch.ensures.idle stretch.result.least);
      best = λ ps fit.
          rw (c.better-least.ensures, c.of.ensures)
          (counted-best so_far.counted c.requires.inside c.loop-low-test.true c.plus-sum.result c.plus-sum.ensures stretch.result.from stretch.ensures.back stretch.ensures.idle
          (omega (arith, c.requires.few)) ps stretch.result.least (stretch.ensures.least ps (so_far.fit.prices ps fit)) (so_far.best ps fit));
    }
