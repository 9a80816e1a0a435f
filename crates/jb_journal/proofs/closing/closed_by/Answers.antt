use Rattle.std.proofs.Common.{sym, subst, ◌∙◌}
use Rattle.jb_journal.proofs.RunEnds.{seen-on}
use Rattle.jb_journal.proofs.closing.closed_by.Goals as goal

pub returns-in-Ok : goal.returns-in-Ok
returns-in-Ok g c = record {
  ok = record { changes = c.in-Ok.ensures.sums.all_touched; within = c.in-Ok.ensures.trail; since = c.in-Ok.ensures.since; ends = c.in-Ok.ensures.stops; came = c.in-Ok.ensures.came };
  err = tt;
}
