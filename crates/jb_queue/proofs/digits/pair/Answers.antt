use Rattle.std.proofs.Common.{sym}
use Rattle.jb_queue.proofs.DigitTable.{pair-both}
use Rattle.jb_queue.proofs.digits.pair.Goals as goal

pub returns : goal.returns
returns c i = pair-both c.args.high c.args.low _ _ i (sym c.in-Some.ensures.value) (sym c.in-Some-value.ensures.value)
