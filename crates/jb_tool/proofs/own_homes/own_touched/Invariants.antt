use Rattle.std.proofs.Common.{◌≡◌, drop}
use Rattle.jb_image.specs.Images.{own_home}
use Rattle.jb_queue.specs.QueueLines.{StandsAfter, handles_of}
use Rattle.jb_tool.specs.OwnTouched.{touched_by}
use Rattle.jb_tool.proofs.own_homes.own_touched.Given as goal

-- the reader stands at the next handle, and the home blocks of the handles that are left have the same first one
abbrev pub invariant-loop-at : goal.invariant-loop-at
invariant-loop-at g l = record {
  placed : StandsAfter l.reader (handles_of l.queue) l.at;
  rest : own_home l.disk (touched_by (drop l.at (handles_of l.queue))) ≡ own_home l.disk (touched_by (handles_of l.queue));
}
