use Rattle.std.proofs.Common.{◌≡◌, Some, ◌∙◌, sym}
use Rattle.std.proofs.lemmas.Result.{on_ok_weaker}
use Rattle.jb_image.specs.Disks.{at_block}
use Rattle.jb_image.proofs.ExtentPlaces.{found-at, given-here}
use Rattle.jb_image.proofs.extents_disk.ExtentsDiskDisk.read.Goals as goal

pub returns-in-Some-clause-found : goal.returns-in-Some-clause-found
returns-in-Some-clause-found g c honest =
    let G = g.D.Disk in
    let d = c.args.self.now in
    let is : at_block d.extents d.journal (G.count d.disk) c.args.place ≡ Some c.in-Some.block
    = found-at d.extents d.journal c.blocks-2.result (G.count d.disk) c.args.place c.in-Some.block c.at.result c.blocks-2.ensures c.at.ensures.value c.in-Some.is in
    on_ok_weaker c.read.result (λ found. found ∙ sym (given-here d.extents d.journal (G.size d.disk) (G.count d.disk) c.args.place c.in-Some.block honest.apart c.requires.place is (G.newest d.disk)))
    (c.read.ensures.found honest.whole)
