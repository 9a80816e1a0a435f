use Rattle.std.proofs.Common.{◌≡◌, ◌≤◌, ◌^◌, take}
use Rattle.jb_handle.specs.Size.{weight}
use Rattle.jb_handle.proofs.size.is_within_size.Given as goal

abbrev pub invariant-loop-handle : goal.invariant-loop-handle
invariant-loop-handle l = (l.weight ≡ weight (take l.handle-index l.handles)) × (l.weight ≤ 2 ^ 62)
