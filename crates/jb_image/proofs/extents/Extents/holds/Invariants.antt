use Rattle.std.proofs.Common.{◌≡◌, drop}
use Rattle.jb_image.specs.Lists.{holds_in, list_of}
use Rattle.jb_image.proofs.extents.Extents.holds.Given as goal

abbrev pub invariant-loop-extent : goal.invariant-loop-extent
invariant-loop-extent l = holds_in (drop l.extent-index (list_of l.self)) l.block ≡ holds_in (list_of l.self) l.block
