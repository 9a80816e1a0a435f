use Rattle.std.proofs.Common.{◌≡◌, length, ◌∙◌, arith}
use Rattle.jb_cost.specs.LastTouch.{owned_cost}
use Rattle.jb_cost.proofs.StretchSearch.{still-fit}
use Rattle.jb_cost.proofs.BestStarts.{best-all}
use Rattle.jb_cost.proofs.best_start.best_start.Goals as goal

pub loop-walk-preserved : goal.loop-walk-preserved
loop-walk-preserved c =
    let so_far = c.loop-walk.invariant in
    let next = c.in-Some.ensures in
    record {
      fit = still-fit _ _ c.loop-walk.shortcuts _ so_far.fit next.fit;
      walk = next.next.walk;
      geometry = next.next.geometry ∙ so_far.geometry;
      best = λ ps fit. (rw so_far.geometry at (next.best ps (so_far.fit.prices ps fit))) (so_far.best ps fit);
    }

pub returns-in-None-clause-fit : goal.returns-in-None-clause-fit
returns-in-None-clause-fit c = still-fit _ _ c.loop-walk.shortcuts _ c.loop-walk.invariant.fit c.in-None.ensures.fit

pub returns-in-None-clause-best : goal.returns-in-None-clause-best
returns-in-None-clause-best c ps fit =
    let so_far = c.loop-walk.invariant in
    best-all (owned_cost c.args.geometry c.args.owned.now) c.args.limit ps c.loop-walk.walk.low (length c.args.owned.now) c.loop-walk.walk.best (so_far.best ps fit)
    (rw so_far.geometry at c.in-None.ensures.over)

pub returns-after-loop-walk-clause-best : goal.returns-after-loop-walk-clause-best
returns-after-loop-walk-clause-best c ps fit =
    let none : c.loop-walk.walk.low ≡ 0 = omega arith in
    rw none at (c.loop-walk.invariant.best ps fit)
