use Rattle.std.proofs.Common.{sym}
use Rattle.jb_text.proofs.Numerals.{digit-next, digit-ends}
use Rattle.jb_text.proofs.text.digits_value.Goals as goal

pub returns-in-None : goal.returns-in-None
returns-in-None c = rw (sym c.in-None.ensures) at (digit-next c.args.digits.now c.loop-digit.digit-index c.loop-digit.value c.loop-digit-test.true c.loop-digit.invariant)

pub loop-digit-preserved : goal.loop-digit-preserved
loop-digit-preserved c = rw (sym c.in-Some.ensures) at (digit-next c.args.digits.now c.loop-digit.digit-index c.loop-digit.value c.loop-digit-test.true c.loop-digit.invariant)

pub returns : goal.returns
returns c = digit-ends c.args.digits.now c.loop-digit.digit-index c.loop-digit.value c.loop-digit-test.false c.loop-digit.invariant
