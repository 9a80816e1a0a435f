use Rattle.jb_cost.specs.Cut.{piece_cost}
use Rattle.jb_cost.specs.LastTouches.{PartsFit, TellsQueue}
use Rattle.jb_plan.specs.Step.{IsTable, most_of}
use Rattle.jb_plan.proofs.price_table.table_of.Given as goal

abbrev pub invariant-loop-last : goal.invariant-loop-last
invariant-loop-last l = record {
  table : IsTable (piece_cost l.fn.geometry l.handles) l.limit (most_of l.handles) l.last l.table.prices.items l.table.froms.items;
  sound : PartsFit l.touches;
  tells : TellsQueue l.fn.geometry l.handles l.last l.table.prices.items l.touches;
}
