use Rattle.std.proofs.Common.{◌≡◌, take, sum, slice_range}
use Rattle.jb_core.proofs.sums.sum_between.Given as goal

abbrev pub invariant-loop-number : goal.invariant-loop-number
invariant-loop-number l = l.total ≡ sum (take l.number-index (slice_range l.numbers l.from l.to))
