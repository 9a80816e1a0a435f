use Rattle.std.proofs.Common.{◌≡◌, None, drop}
use Rattle.jb_image.proofs.SharedBlocks.{lowest_from}
use Rattle.jb_image.proofs.shared.first_shared.Given as goal

abbrev pub invariant-loop-extent : goal.invariant-loop-extent
invariant-loop-extent l = lowest_from l.before (drop l.extent-index l.rising) ≡ lowest_from None l.rising
