use Rattle.jb_image.proofs.PairCalls.{reads-front, goes-both}
use Rattle.jb_image.proofs.PairKept.{fails-front, keeps-then}
use Rattle.jb_image.proofs.pair.PairDiskDisk.sync.Goals as goal

pub returns-in_err-sync-clause-goes : goal.returns-in_err-sync-clause-goes
returns-in_err-sync-clause-goes g c =
    reads-front g.A.Disk g.B.Disk g.met.A.Disk.only_now g.met.B.Disk.only_now c.args.self.now c.sync.new.self c.note.new.self c.note.ensures c.sync.ensures.kept c.sync.ensures.goes

pub returns-clause-goes : goal.returns-clause-goes
returns-clause-goes g c honest =
    goes-both g.A.Disk g.B.Disk g.met.A.Disk.only_now g.met.B.Disk.only_now g.met.A.Disk.has_shape g.met.B.Disk.has_shape c.args.self.now c.sync.new.self c.sync-2.new.self
    c.note.new.self c.note-2.new.self c.note.ensures c.note-2.ensures c.sync.ensures.kept c.sync-2.ensures.kept honest c.sync.ensures.goes c.sync-2.ensures.goes

pub returns-in_err-sync-clause-kept : goal.returns-in_err-sync-clause-kept
returns-in_err-sync-clause-kept g c =
    fails-front g.A.Disk g.B.Disk c.from_residual.result c.args.self.now c.sync.new.self c.note.new.self c.from_residual.ensures.0 c.in_err-sync.ensures.kept

pub returns-clause-kept : goal.returns-clause-kept
returns-clause-kept g c =
    keeps-then g.A.Disk g.B.Disk c.args.self.now c.sync.new.self c.sync-2.new.self c.note-2.new.self c.sync-2.result c.in_ok-sync.ensures.kept c.sync-2.ensures.kept
