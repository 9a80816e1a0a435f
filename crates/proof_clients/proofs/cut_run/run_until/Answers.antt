use Rattle.std.proofs.Common.{subst}
use Rattle.jb_disk.specs.contracts.fuse.FuseDiskDisk.TheImpl.{ghosts as fused}
use Rattle.jb_journal.specs.Run.{RanOn}
use Rattle.jb_journal.specs.RunFaults.{IsNotRun}
use Rattle.jb_journal.specs.Start.{started_on}
use Rattle.proof_clients.proofs.CutRuns.{cut-not-run, cut-run}
use Rattle.proof_clients.proofs.cut_run.run_until.Goals as goal

pub returns-in-Ok-clause-ran : goal.returns-in-Ok-clause-ran
returns-in-Ok-clause-ran g c =
    let F = fused g.row.D g.D.Disk g.D.Disk-dict in
    let may = g.W.Worker.answers c.args.worker.now in
    let fuse = c.of.result in
    let same = c.taken.ensures.same in
    cut-run F g.D.Disk (λ f held. held) (λ f image left. left) c.in-Ok.ran.disk c.taken.ensures.counts_now
    c.args.disk may c.args.options.workers c.taken.result fuse c.of.ensures.disk same.1
    (subst (λ ran. RanOn F fuse (started_on F fuse) (may (started_on F fuse)) c.args.options.workers ran) same.0 c.in-Ok.ensures.ran)

pub returns-in-Err-clause-refused : goal.returns-in-Err-clause-refused
returns-in-Err-clause-refused g c =
    let F = fused g.row.D g.D.Disk g.D.Disk-dict in
    let may = g.W.Worker.answers c.args.worker.now in
    let fuse = c.of.result in
    let same = c.given_back.ensures.same in
    cut-not-run F g.D.Disk (λ f held. held) (λ f image left. left) c.in-Err.back.disk c.given_back.ensures.counts_now
    c.args.disk c.args.options.commits may c.args.options.workers c.given_back.result fuse c.of.ensures.disk same.1
    (subst (λ back. IsNotRun F fuse (started_on F fuse) c.args.options.commits (may (started_on F fuse)) c.args.options.workers back) same.0 c.in-Err.ensures.refused)
