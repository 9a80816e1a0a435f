use Rattle.std.proofs.Common.{◌∙◌}
use Rattle.jb_desk.proofs.RoundCounts.{keeps-on}
use Rattle.jb_journal.proofs.committing.commit_on.Goals as goal

pub loop-preserved : goal.loop-preserved
loop-preserved g c = keeps-on _ _ _ c.loop.invariant c.run_committer_after-next.ensures.seat
