use Rattle.std.proofs.Common.{refl}
use Rattle.jb_journal.proofs.ClientNotes.{goes-on, noted-for, taken-of}
use Rattle.std.proofs.lemmas.Result.{IfErr-weaker, IfOk-weaker}
use Rattle.jb_journal.proofs.client.Client.wait_for.Goals as goal

pub returns-clause-noted : goal.returns-clause-noted
returns-clause-noted g c = IfOk-weaker c.wait_for.result _ _ (λ told is. noted-for g.D.Disk.moment _ c.wait_for.new.seen c.args.ticket told is) c.wait_for.ensures.shown

pub returns-clause-noted_taken : goal.returns-clause-noted_taken
returns-clause-noted_taken g c = IfErr-weaker c.wait_for.result _ _ (λ fault is. taken-of g.D.Disk.moment c.wait_for.new.seen.marks c.args.ticket fault is) c.wait_for.ensures.taken

pub returns-clause-goes_on : goal.returns-clause-goes_on
returns-clause-goes_on g c = goes-on _ _ refl refl c.wait_for.ensures.begins
