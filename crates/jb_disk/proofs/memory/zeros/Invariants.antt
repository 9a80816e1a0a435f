use Rattle.std.proofs.Common.{◌≡◌, replicate}
use Rattle.jb_block.specs.Size.{bytes_of}
use Rattle.jb_disk.specs.Calls.{image_of}
use Rattle.jb_disk.proofs.memory.zeros.Given as goal

abbrev pub invariant-loop-place : goal.invariant-loop-place
invariant-loop-place l = image_of l.image.items ≡ replicate l._place (replicate (bytes_of l.size) 0)
