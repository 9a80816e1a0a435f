use Rattle.std.proofs.Common.{◌≡◌, drop}
use Rattle.jb_image.specs.Lists.{extents_count_from, extents_count}
use Rattle.jb_image.proofs.extents.total.Given as goal

abbrev pub invariant-loop-extent : goal.invariant-loop-extent
invariant-loop-extent l = extents_count_from l.sum (drop l.extent-index l.list) ≡ extents_count l.list
