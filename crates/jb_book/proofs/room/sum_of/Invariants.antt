use Rattle.std.proofs.Common.{◌≡◌, take, sum}
use Rattle.jb_book.proofs.room.sum_of.Given as goal

abbrev pub invariant-loop-number : goal.invariant-loop-number
invariant-loop-number l = l.total ≡ sum (take l.number-index l.numbers)
