use Rattle.proof_clients.proofs.cut_run.taken.Goals as goal

pub returns-clause-counts_now : goal.returns-clause-counts_now
returns-clause-counts_now g c = λ t image held within left. g.met.D.Disk.counts_now c.args.ran.disk.disk t image held within left
