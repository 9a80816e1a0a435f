use Rattle.std.proofs.Common.{refl}
use Rattle.std.proofs.lemmas.Result.{IfErr-weaker, IfOk-weaker}
use Rattle.jb_journal.proofs.ClientNotes.{goes-on, noted-by, taken-of}
use Rattle.jb_journal.proofs.client.Client.wait.Goals as goal

pub returns-clause-noted : goal.returns-clause-noted
returns-clause-noted g c = IfOk-weaker c.wait.result _ _ (λ number is. noted-by g.D.Disk.moment c.wait.new.seen.marks c.args.ticket number is) c.wait.ensures.shown

pub returns-clause-noted_taken : goal.returns-clause-noted_taken
returns-clause-noted_taken g c = IfErr-weaker c.wait.result _ _ (λ fault is. taken-of g.D.Disk.moment c.wait.new.seen.marks c.args.ticket fault is) c.wait.ensures.taken

pub returns-clause-goes_on : goal.returns-clause-goes_on
returns-clause-goes_on g c = goes-on _ _ refl refl c.wait.ensures.begins
