use Rattle.std.proofs.Common.{◌≡◌, ◌<◌, Some, length, ◌∙◌, refl, sym, ap, subst, arith}
use Rattle.std.proofs.lemmas.Result.{on_ok_weaker}
use Rattle.jb_disk.specs.Image.{Image, ChangesNothing, Torn}
use Rattle.jb_disk.specs.Writes.{torn_same}
use Rattle.jb_disk.proofs.CallSteps.{goes-none}
use Rattle.jb_image.specs.Disks.{at_block}
use Rattle.jb_image.specs.ExtentImage.{spread, within}
use Rattle.jb_image.specs.declared.extents_disk.ExtentsDisk.{ExtentsDisk}
use Rattle.jb_image.proofs.ExtentPlaces.{found-at, given-set, given-torn, goes-within}
use Rattle.jb_image.proofs.extents_disk.ExtentsDiskDisk.write.Given.{Over}
use Rattle.jb_image.proofs.extents_disk.ExtentsDiskDisk.write.Goals as goal
use Rattle.jb_image.proofs.extents_disk.ExtentsDiskDisk.write.Goals.{After-write, In-Some}

-- the block that the place is
found : (g : Over) (c : In-Some g) → at_block c.args.self.now.extents c.args.self.now.journal (g.D.Disk.count c.args.self.now.disk) c.args.place ≡ Some c.in-Some.block
found g c =
    let d = c.args.self.now in
    found-at d.extents d.journal c.blocks-2.result (g.D.Disk.count d.disk) c.args.place c.in-Some.block c.at.result c.blocks-2.ensures c.at.ensures.value c.in-Some.is

-- an image is spread as before
same : (g : Over) (c : After-write g) (x : Image) → spread c.args.self.now.extents c.args.self.now.journal (g.D.Disk.size c.write.new.self) (g.D.Disk.count c.write.new.self) x ≡ within g.D.Disk c.args.self.now x
same g c x = rw (c.write.ensures.kept.same_size, c.write.ensures.kept.same_count)

pub returns-in-Some-clause-written : goal.returns-in-Some-clause-written
returns-in-Some-clause-written g c honest =
    let at = goal.at.returns-in-Some-clause-written g c in
    let G = g.D.Disk in
    let d = c.args.self.now in
    let was = c.write.ensures.kept.was_honest honest.whole in
    let x = G.newest d.disk in
    let shape = g.met.D.Disk.has_shape d.disk x was (g.met.D.Disk.newest_may_stay d.disk was) in
    let inside : c.in-Some.block < length x = omega (arith, c.in-Some.ensures.within, c.blocks-2.ensures, shape.blocks) in
    let given = given-set d.extents d.journal (G.size d.disk) (G.count d.disk) c.args.place c.in-Some.block honest.apart c.requires.place (found g at.In-Some) x c.args.bytes.now inside in
    on_ok_weaker c.write.result (λ written. same g at.After-write (G.newest c.write.new.self) ∙ ap (within G d) written ∙ given)
    (c.write.ensures.written honest.whole)

pub returns-in-Some-clause-torn : goal.returns-in-Some-clause-torn
returns-in-Some-clause-torn g c honest =
    let at = goal.at.returns-in-Some-clause-torn g c in
    let G = g.D.Disk in
    let d = c.args.self.now in
    let x' = G.newest c.write.new.self in
    subst (Torn c.args.place c.args.bytes.now (within G d (G.newest d.disk))) (sym (same g at.After-write x'))
    (given-torn d.extents d.journal (G.size d.disk) (G.count d.disk) c.args.place c.in-Some.block honest.apart c.requires.place (found g at.In-Some) (G.newest d.disk) x' c.args.bytes.now (c.write.ensures.torn honest.whole))

pub returns-in-Some-clause-goes : goal.returns-in-Some-clause-goes
returns-in-Some-clause-goes g c honest =
    let at = goal.at.returns-in-Some-clause-goes g c in
    let G = g.D.Disk in
    let d = c.args.self.now in
    let d' : ExtentsDisk g.row.D.Denot = record { disk = c.write.new.self; extents = d.extents; journal = d.journal; failed = d.failed } in
    goes-within d d' G (same g at.After-write) (Torn c.in-Some.block c.args.bytes.now) (Torn c.args.place c.args.bytes.now)
    (λ x x' torn. given-torn d.extents d.journal (G.size d.disk) (G.count d.disk) c.args.place c.in-Some.block honest.apart c.requires.place (found g at.In-Some) x x' c.args.bytes.now torn)
    (c.write.ensures.goes honest.whole)

pub returns-in-None-clause-goes : goal.returns-in-None-clause-goes
returns-in-None-clause-goes g c honest =
    let G = g.D.Disk in
    let d = c.args.self.now in
    let d' : ExtentsDisk g.row.D.Denot = record { disk = d.disk; extents = d.extents; journal = d.journal; failed = c.fail.new.failed } in
    goes-within d d' G (λ x. refl) ChangesNothing (Torn c.args.place c.args.bytes.now)
    (λ x x' same. subst (Torn c.args.place c.args.bytes.now (within G d x)) (sym (ap (within G d) same)) (torn_same (within G d x) c.args.place c.args.bytes.now))
    (goes-none G.may_leave G.moment G.left_since d.disk)
