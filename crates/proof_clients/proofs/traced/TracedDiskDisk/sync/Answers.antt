use Rattle.std.proofs.Common.{is_ok}
use Rattle.jb_disk.specs.OneCall.{Syncs}
use Rattle.proof_clients.proofs.CallsMade.{traced-kept}
use Rattle.proof_clients.proofs.traced.TracedDiskDisk.sync.Goals as goal

pub returns-clause-kept : goal.returns-clause-kept
returns-clause-kept g c = traced-kept Syncs (is_ok c.sync.result) c.sync.ensures.kept c.sync.ensures.own
