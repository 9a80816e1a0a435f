use Rattle.std.proofs.Common.{sym, subst}
use Rattle.jb_disk.specs.Events.{NoneAfter, NoneFailed}
use Rattle.proof_clients.proofs.examples.changes.well_asked.Goals as goal

pub returns-clause-meets : goal.returns-clause-meets
returns-clause-meets c d bytes up are =
    (subst NoneAfter (sym are) (tt, (tt, tt)), λ running. subst NoneFailed (sym are) (tt, (tt, (tt, tt))))

pub returns-clause-meets_aborted : goal.returns-clause-meets_aborted
returns-clause-meets_aborted c d bytes failed are = (subst NoneAfter (sym are) (tt, tt), λ running. absurd (cc))

pub returns-clause-not_synced_again : goal.returns-clause-not_synced_again
returns-clause-not_synced_again c d are asked = (subst NoneAfter are asked.0).0

pub returns-clause-not_read : goal.returns-clause-not_read
returns-clause-not_read c d bytes are asked = (subst NoneAfter are asked.0).0

pub returns-clause-not_after_write : goal.returns-clause-not_after_write
returns-clause-not_after_write c d bytes up are asked = (subst NoneFailed are (asked.1 up)).0

pub returns-clause-not_after_sync : goal.returns-clause-not_after_sync
returns-clause-not_after_sync c d up are asked = (subst NoneFailed are (asked.1 up)).0
