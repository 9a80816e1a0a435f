use Rattle.std.proofs.Common.{is_ok}
use Rattle.jb_disk.specs.OneCall.{Writes}
use Rattle.proof_clients.proofs.CallsMade.{traced-kept}
use Rattle.proof_clients.proofs.traced.TracedDiskDisk.write.Goals as goal

pub returns-clause-kept : goal.returns-clause-kept
returns-clause-kept g c = traced-kept (Writes c.args.place c.args.bytes.now) (is_ok c.write.result) c.write.ensures.kept c.write.ensures.own
