use Rattle.std.proofs.Common.{◌≡◌, ◌+◌, ◌≤◌, List, length}
use Rattle.jb_block.specs.Size.{bytes_of}
use Rattle.jb_handle.specs.declared.stopped.Stopped.{Stopped}
use Rattle.jb_text.specs.Parts.{lines}
use Rattle.jb_queue.proofs.Weights.{LinesTo}
use Rattle.jb_queue.proofs.queue_lines.count_handles.Given as goal

-- the handles of the text are those that the rest leaves after the ones that were read, one a line
abbrev pub invariant-loop-line : goal.invariant-loop-line
invariant-loop-line l = record {
  had : List Stopped;
  number : l.count ≡ length had;
  read : LinesTo (bytes_of l.bs) (lines l.fn.text) had (lines l.rest);
  few : l.count + length l.rest ≤ length l.fn.text;
}

abbrev pub decreases-loop-line : goal.decreases-loop-line
decreases-loop-line l = length l.rest
