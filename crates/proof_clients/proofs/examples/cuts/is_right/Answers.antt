use Rattle.std.proofs.Common.{arith}
use Rattle.jb_plan.specs.Costs.{cost_in}
use Rattle.proof_clients.specs.Examples.{three, six, four, best}
use Rattle.proof_clients.proofs.ExampleCuts.{costs-six, costs-four, is-best, fits-best, none-fits}
use Rattle.proof_clients.proofs.examples.cuts.is_right.Goals as goal

pub returns-clause-meets : goal.returns-clause-meets
returns-clause-meets c bounds are = (
  rw are (is-best (cost_in six three) costs-six),
  rw are (omega (arith, costs-six.first, costs-six.late)),
)

pub returns-clause-meets_none : goal.returns-clause-meets_none
returns-clause-meets_none c other fitting = none-fits (cost_in four three) costs-four other fitting

pub returns-clause-not_greedy : goal.returns-clause-not_greedy
returns-clause-not_greedy c bounds are right =
    let less = (rw are at right.0).least best (fits-best (cost_in six three) costs-six) in
    omega (arith, less, costs-six.first, costs-six.late, costs-six.early, costs-six.third)

pub returns-clause-not_total : goal.returns-clause-not_total
returns-clause-not_total c bounds are right = omega (arith, rw are at right.1, costs-six.first, costs-six.late)

pub returns-clause-not_over : goal.returns-clause-not_over
returns-clause-not_over c bounds are right = omega (arith, (rw are at right.0.fitting).fits.0, costs-six.whole)

pub returns-clause-not_none : goal.returns-clause-not_none
returns-clause-not_none c none = none best (fits-best (cost_in six three) costs-six)

pub returns-clause-not_four : goal.returns-clause-not_four
returns-clause-not_four c bounds sum right = none-fits (cost_in four three) costs-four bounds.items right.0.fitting
