use Rattle.std.proofs.Common.{◌≤◌, drop, length}
use Rattle.jb_cost.specs.Cut.{piece_cost}
use Rattle.jb_core.specs.Exactly.{GoesOn}
use Rattle.jb_core.proofs.least.goes_on.Given as goal

abbrev pub invariant-loop-end : goal.invariant-loop-end
invariant-loop-end l = record {
  inside : l.start ≤ length l.handles;
  to : GoesOn (piece_cost l.geometry l.handles) l.limit (length l.handles) 0 l.blocks l.ends → GoesOn (piece_cost l.geometry l.handles) l.limit (length l.handles) l.start l.left (drop l.end-index l.ends);
  back : GoesOn (piece_cost l.geometry l.handles) l.limit (length l.handles) l.start l.left (drop l.end-index l.ends) → GoesOn (piece_cost l.geometry l.handles) l.limit (length l.handles) 0 l.blocks l.ends;
}
