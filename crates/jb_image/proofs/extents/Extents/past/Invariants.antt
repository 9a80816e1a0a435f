use Rattle.std.proofs.Common.{◌≡◌, drop}
use Rattle.jb_image.specs.Lists.{past_in, list_of}
use Rattle.jb_image.proofs.extents.Extents.past.Given as goal

abbrev pub invariant-loop-extent : goal.invariant-loop-extent
invariant-loop-extent l = past_in l.count (drop l.extent-index (list_of l.self)) ≡ past_in l.count (list_of l.self)
