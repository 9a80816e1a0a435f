use Rattle.std.proofs.Common.{◌≡◌, drop}
use Rattle.jb_image.specs.Disks.{own_in}
use Rattle.jb_image.proofs.extents_disk.ExtentsDisk.first_own.Given as goal

abbrev pub invariant-loop-home : goal.invariant-loop-home
invariant-loop-home g l = own_in l.self.extents (drop l.home-index l.homes) ≡ own_in l.self.extents l.homes
