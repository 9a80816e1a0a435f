use Rattle.proof_clients.proofs.WorkerReads.{told-of}
use Rattle.proof_clients.proofs.workers.two_workers.Goals as goal

pub returns : goal.returns
returns g c =
    told-of g.D.Disk c.args.disk c.args.bytes _ c.new.result.workers c.new-2.ensures c.new.ensures.threads.0 c.run.result c.run.ensures.ran
