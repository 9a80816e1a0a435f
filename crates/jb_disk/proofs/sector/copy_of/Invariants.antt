use Rattle.std.proofs.Common.{◌≡◌, take}
use Rattle.jb_disk.specs.Calls.{image_of}
use Rattle.jb_disk.proofs.sector.copy_of.Given as goal

abbrev pub invariant-loop-block : goal.invariant-loop-block
invariant-loop-block l = image_of l.copy.items ≡ image_of (take l.block-index l.blocks)
