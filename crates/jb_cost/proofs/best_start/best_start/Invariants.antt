use Rattle.std.proofs.Common.{◌≡◌, ℕ, List, Option, length}
use Rattle.jb_cost.specs.LastTouch.{owned_cost}
use Rattle.jb_cost.specs.Starts.{BestStart}
use Rattle.jb_cost.specs.Spans.{FitPrices, StillFit}
use Rattle.jb_cost.specs.Search.{IsWalk}
use Rattle.jb_cost.proofs.best_start.best_start.Given as goal

abbrev pub invariant-loop-walk : goal.invariant-loop-walk
invariant-loop-walk l = record {
  fit : StillFit l.owned l.initial.shortcuts l.shortcuts;
  walk : IsWalk l.owned l.walk;
  geometry : l.walk.tally.geometry ≡ l.fn.geometry;
  best : (ps : List (Option ℕ)) → FitPrices ps l.owned l.initial.shortcuts → BestStart (owned_cost l.fn.geometry l.owned) l.limit ps l.walk.low (length l.owned) l.walk.best;
}

abbrev pub decreases-loop-walk : goal.decreases-loop-walk
decreases-loop-walk l = l.walk.low
