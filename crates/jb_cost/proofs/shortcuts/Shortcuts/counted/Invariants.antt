use Rattle.std.proofs.Common.{◌^◌, ℕ, List, Option}
use Rattle.jb_cost.specs.Starts.{BestStart}
use Rattle.jb_cost.specs.Spans.{copies_until, FitPrices, StillFit}
use Rattle.jb_cost.proofs.SpanSearch.{Counted}
use Rattle.jb_cost.proofs.shortcuts.Shortcuts.counted.Given as goal

abbrev pub invariant-loop-low : goal.invariant-loop-low
invariant-loop-low l = record {
  fit : StillFit l.owned l.initial.self l.self;
  counted : Counted l.owned l.end l.low l.sum l.least;
  best : (ps : List (Option ℕ)) → FitPrices ps l.owned l.initial.self → BestStart (copies_until l.owned l.end) (2 ^ 62) ps l.low l.end l.least;
}

abbrev pub decreases-loop-low : goal.decreases-loop-low
decreases-loop-low l = l.low
