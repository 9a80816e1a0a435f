use Rattle.std.proofs.lemmas.Result.{IfErr-weaker, IfOk-weaker}
use Rattle.jb_book.proofs.OpenedJournal.{none-after}
use Rattle.jb_journal.specs.Start.{started_on}
use Rattle.jb_journal.proofs.RunAsked.{not-run-asked}
use Rattle.jb_journal.proofs.running.run.Goals as goal

pub returns-clause-asked : goal.returns-clause-asked
returns-clause-asked g c =
    IfOk-weaker c.run_on.result _ _ (λ ran since well go few. none-after g.D.Disk (started_on g.D.Disk c.args.disk) ran.disk ran.trail.items since (well, go) few) c.run_on.ensures.since

pub returns-clause-asked_not_run : goal.returns-clause-asked_not_run
returns-clause-asked_not_run g c =
    let b = started_on g.D.Disk c.args.disk in
    IfErr-weaker c.run_on.result _ _
    (λ back is well go few. not-run-asked g.D.Disk b (well, go) c.args.disk well go c.args.options.commits (g.W.Worker.answers c.args.worker.now b) c.args.options.workers
    back.fault back.disk back.answers.items is few)
    c.run_on.ensures.refused
