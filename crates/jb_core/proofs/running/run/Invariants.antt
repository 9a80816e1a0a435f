use Rattle.std.proofs.Common.{◌≡◌, [], length, All}
use Rattle.jb_core.specs.Lives.{log_from, IsKnown}
use Rattle.jb_core.specs.MachineRuns.{RanFromStart}
use Rattle.jb_core.proofs.running.run.Given as goal

abbrev pub invariant-loop-event : goal.invariant-loop-event
invariant-loop-event l = record {
  same : length l.yielded ≡ length l.answers.items;
  known : All IsKnown l.answers.items;
  ran : RanFromStart l.fn.shape (log_from [] l.yielded l.answers.items) l.state;
}
