use Rattle.proof_clients.proofs.cut_run.given_back.Goals as goal

pub returns-clause-counts_now : goal.returns-clause-counts_now
returns-clause-counts_now g c = λ t image held within left. g.met.D.Disk.counts_now c.args.back.disk.disk t image held within left
