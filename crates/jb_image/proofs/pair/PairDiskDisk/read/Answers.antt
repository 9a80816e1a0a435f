use Rattle.jb_image.proofs.PairCalls.{reads-front, reads-back}
use Rattle.jb_image.proofs.PairKept.{keeps-front, keeps-back}
use Rattle.jb_image.proofs.pair.PairDiskDisk.read.Goals as goal

pub returns-then-place-front-clause-goes : goal.returns-then-place-front-clause-goes
returns-then-place-front-clause-goes g c =
    reads-front g.A.Disk g.B.Disk g.met.A.Disk.only_now g.met.B.Disk.only_now c.args.self.now c.read.new.self c.note.new.self c.note.ensures c.read.ensures.kept c.read.ensures.goes

pub returns-clause-goes : goal.returns-clause-goes
returns-clause-goes g c =
    reads-back g.A.Disk g.B.Disk g.met.A.Disk.only_now g.met.B.Disk.only_now c.args.self.now c.read-2.new.self c.note.new.self c.note.ensures c.read-2.ensures.kept c.read-2.ensures.goes

pub returns-then-place-front-clause-kept : goal.returns-then-place-front-clause-kept
returns-then-place-front-clause-kept g c = keeps-front g.A.Disk g.B.Disk c.read.result c.args.self.now c.read.new.self c.note.new.self c.read.ensures.kept

pub returns-clause-kept : goal.returns-clause-kept
returns-clause-kept g c = keeps-back g.A.Disk g.B.Disk c.read-2.result c.args.self.now c.read-2.new.self c.note.new.self c.read-2.ensures.kept
