use Rattle.std.proofs.Common.{◌≡◌, drop}
use Rattle.jb_image.specs.Lists.{place_within, list_of}
use Rattle.jb_image.proofs.extents.Extents.place.Given as goal

abbrev pub invariant-loop-extent : goal.invariant-loop-extent
invariant-loop-extent l = place_within (drop l.extent-index (list_of l.self)) l.left ≡ place_within (list_of l.self) l.i
