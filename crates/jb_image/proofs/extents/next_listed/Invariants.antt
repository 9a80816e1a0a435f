use Rattle.std.proofs.Common.{◌≡◌, take, drop}
use Rattle.jb_image.specs.Lists.{listed}
use Rattle.jb_image.proofs.WordBytes.{fronted}
use Rattle.jb_image.proofs.extents.next_listed.Given as goal

abbrev pub invariant-loop-at : goal.invariant-loop-at
invariant-loop-at l = fronted (take l.at l.text) (listed (drop l.at l.text)) ≡ listed l.text
