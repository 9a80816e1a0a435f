use Rattle.std.proofs.Common.{◌<◌, ◌≤◌, get_or, refl, arith}
use Rattle.std.proofs.lemmas.Bool.Decides.{nat_tests}
use Rattle.jb_queue.specs.declared.digits.TheConstants.{VALUES}
use Rattle.jb_queue.proofs.DigitTable.{digit-some, digit-none}
use Rattle.jb_queue.proofs.digits.value.Goals as goal

pub returns-then-value-lt16-clause-value : goal.returns-then-value-lt16-clause-value
returns-then-value-lt16-clause-value c =
    let small : get_or VALUES c.args.digit 0 < 16 = grind (arith, nat_tests) in
    digit-some c.args.digit _ (omega arith) refl small

pub returns-else-value-lt16-clause-value : goal.returns-else-value-lt16-clause-value
returns-else-value-lt16-clause-value c =
    let big : 16 ≤ get_or VALUES c.args.digit 0 = grind (arith, nat_tests) in
    digit-none c.args.digit _ (omega arith) refl big
