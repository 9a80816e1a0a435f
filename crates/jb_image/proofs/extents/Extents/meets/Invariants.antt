use Rattle.std.proofs.Common.{◌≡◌, drop}
use Rattle.jb_image.specs.Lists.{list_of, meets_in}
use Rattle.jb_image.proofs.extents.Extents.meets.Given as goal

abbrev pub invariant-loop-other : goal.invariant-loop-other
invariant-loop-other l = meets_in l.extent (drop l.other-index (list_of l.self)) ≡ meets_in l.extent (list_of l.self)
