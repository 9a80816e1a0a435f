use Rattle.std.proofs.Common.{refl}
use Rattle.jb_journal.proofs.ClientNotes.{goes-on}
use Rattle.jb_journal.proofs.client.Client.see.Goals as goal

pub returns-clause-goes_on : goal.returns-clause-goes_on
returns-clause-goes_on g c = goes-on _ _ refl refl c.see.ensures.sees
