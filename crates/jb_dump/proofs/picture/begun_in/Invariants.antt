use Rattle.std.proofs.Common.{◌<◌, ◌≤◌, ◌^◌}
use Rattle.jb_dump.specs.Summary.{sum_of}
use Rattle.jb_dump.proofs.PictureColumns.{BegunUpTo}
use Rattle.jb_dump.proofs.picture.begun_in.Given as goal

abbrev pub invariant-loop-size : goal.invariant-loop-size
invariant-loop-size l = record {
  few : l.begun ≤ l.size-index;
  counted : sum_of l.sizes < 2 ^ 32 → BegunUpTo l.sb l.sizes l.column l.size-index l.at l.begun;
}
