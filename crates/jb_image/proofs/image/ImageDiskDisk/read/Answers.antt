use Rattle.jb_disk.specs.Faults.{CountsFault}
use Rattle.jb_image.proofs.ImageCalls.{keeps-one, keeps-two, keeps-within, goes-two, goes-within, reads-two}
use Rattle.jb_image.proofs.image.ImageDiskDisk.read.Goals as goal

pub returns-in-Two-clause-goes : goal.returns-in-Two-clause-goes
returns-in-Two-clause-goes g c honest = goes-two g.D.Disk g.E.Disk c.in-Two.is (c.read-in-Two.ensures.goes honest)

pub returns-in-Within-clause-goes : goal.returns-in-Within-clause-goes
returns-in-Within-clause-goes g c honest = goes-within g.D.Disk g.E.Disk c.in-Within.is (c.read-in-Within.ensures.goes honest)

pub returns-in-One-clause-kept : goal.returns-in-One-clause-kept
returns-in-One-clause-kept g c = keeps-one g.D.Disk g.E.Disk (CountsFault c.read.result) c.in-One.is c.read.ensures.kept

pub returns-in-Two-clause-kept : goal.returns-in-Two-clause-kept
returns-in-Two-clause-kept g c = keeps-two g.D.Disk g.E.Disk (CountsFault c.read-in-Two.result) c.in-Two.is c.read-in-Two.ensures.kept

pub returns-in-Within-clause-kept : goal.returns-in-Within-clause-kept
returns-in-Within-clause-kept g c = keeps-within g.D.Disk g.E.Disk (CountsFault c.read-in-Within.result) c.in-Within.is c.read-in-Within.ensures.kept

pub returns-in-Two-clause-own : goal.returns-in-Two-clause-own
returns-in-Two-clause-own g c = record {
  own = rw c.in-Two.is c.read-in-Two.ensures.own.own;
  unsynced = reads-two g.D.Disk g.E.Disk c.in-Two.is c.read-in-Two.ensures.own.unsynced;
}
