use Rattle.std.proofs.Common.{Err, arith, subst, sym}
use Rattle.jb_queue.specs.QueueLines.{handles_of}
use Rattle.jb_tool.specs.Loads.{AnswersLoad}
use Rattle.jb_tool.proofs.LoadAnswers.{answers-fault, answers-run, not-meanwhile, not-thread}
use Rattle.jb_tool.proofs.loading.load.load_on.Goals as goal

pub fault_of-requires : goal.fault_of-requires
fault_of-requires g c = record {
  threads =
      let back = c.in-Err.back in
      not-thread g.D.Disk g.H.Origin.begun c.args.disk c.args.queue.now.bs (handles_of c.args.queue.now) c.args.options (omega arith)
      c.run_options-run.result.commits _ c.run_options-run.result.workers (not-meanwhile c.args.options.hold c.run_options-run.result.commits c.run_options-run.ensures.commits)
      back.fault back.disk back.answers.items c.in-Err.ensures.refused;
}

pub returns-in-Ok : goal.returns-in-Ok
returns-in-Ok g c = record {
  answers =
      let run = c.run_options-run in
      let counted = c.count_up.ensures in
      answers-run g.D.Disk g.H.Origin.begun c.args.disk c.args.queue.now.bs (handles_of c.args.queue.now) c.args.options (omega arith)
      c.in-Ok.ran run.result.workers run.ensures.workers run.result.checkpoint run.ensures.checkpoint c.in-Ok.ensures.ran c.in-Ok.ensures.ends
      c.len.result c.len.ensures.value c.count_up.result counted.counts counted.disk counted.follows counted.faults;
}

pub returns-in-Err : goal.returns-in-Err
returns-in-Err g c = record {
  answers =
      subst (λ f. AnswersLoad g.D.Disk g.H.Origin.begun c.args.disk c.args.queue.now.bs (handles_of c.args.queue.now) c.args.options (Err f)) (sym c.fault_of.ensures)
      (answers-fault g.D.Disk g.H.Origin.begun c.args.disk c.args.queue.now.bs (handles_of c.args.queue.now) c.args.options (omega arith)
      c.run_options-run.result.commits _ c.run_options-run.result.workers (not-meanwhile c.args.options.hold c.run_options-run.result.commits c.run_options-run.ensures.commits)
      c.failure-told.result c.in-Err.back.fault c.in-Err.back.disk c.in-Err.back.answers.items c.in-Err.ensures.refused c.failure-told.ensures);
}
