use Rattle.std.proofs.Common.{◌≡◌, drop}
use Rattle.jb_cost.specs.Footprint.{covered_by}
use Rattle.jb_alloc_faults.proofs.values.by_footprint.Given as goal

abbrev pub invariant-loop-start : goal.invariant-loop-start
invariant-loop-start l = l.footprint ≡ covered_by l.fn.geometry (drop l.start l.handles)
