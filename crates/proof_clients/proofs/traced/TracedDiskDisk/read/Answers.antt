use Rattle.std.proofs.Common.{is_ok}
use Rattle.jb_disk.specs.OneCall.{Reads}
use Rattle.proof_clients.proofs.CallsMade.{traced-kept}
use Rattle.proof_clients.proofs.traced.TracedDiskDisk.read.Goals as goal

pub returns-clause-kept : goal.returns-clause-kept
returns-clause-kept g c = traced-kept (Reads c.args.place) (is_ok c.read.result) c.read.ensures.kept c.read.ensures.own.own
