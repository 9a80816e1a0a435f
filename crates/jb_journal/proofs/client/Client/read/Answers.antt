use Rattle.std.proofs.Common.{refl}
use Rattle.jb_journal.proofs.ClientNotes.{goes-on, reads-as}
use Rattle.jb_journal.proofs.client.Client.read.Goals as goal

pub returns-clause-reads : goal.returns-clause-reads
returns-clause-reads g c = reads-as g.D.Disk g.H.Origin.begun _ _ _ _ _ c.args.home _ _ c.read.result c.read.ensures.reads

pub returns-clause-goes_on : goal.returns-clause-goes_on
returns-clause-goes_on g c = goes-on _ _ refl refl c.read.ensures.sees
