use Rattle.std.proofs.Common.{◌≡◌}
use Rattle.std.specs.Option.{option_copied}
use Rattle.jb_image.specs.Lists.{extents_count, listed_in}
use Rattle.jb_map.specs.Twice.{AreForward}
use Rattle.jb_image.proofs.TakenWords.{AreTaken, left_len}
use Rattle.jb_image.proofs.extents.Extents.read.Given as goal

abbrev pub invariant-loop-left : goal.invariant-loop-left
invariant-loop-left l = record {
  taken : AreTaken l.text (listed_in (option_copied l.left)) l.list.items;
  counted : l.blocks ≡ extents_count l.list.items;
  forward : AreForward l.list.items;
}

abbrev pub decreases-loop-left : goal.decreases-loop-left
decreases-loop-left l = left_len (option_copied l.left)
