use Rattle.std.proofs.Common.{arith}
use Rattle.jb_plan.specs.Costs.{cost_in}
use Rattle.proof_clients.specs.Examples.{three, six, best}
use Rattle.proof_clients.proofs.ExampleCuts.{costs-six, are-prices, fits-best, is-best}
use Rattle.proof_clients.proofs.examples.cuts.are_prices.Goals as goal

pub returns-clause-meets : goal.returns-clause-meets
returns-clause-meets c = are-prices (cost_in six three) costs-six

pub returns-clause-not_less : goal.returns-clause-not_less
returns-clause-not_less c are =
    let is = (are.each 3 (omega arith)).0 in
    let low = (is-best (cost_in six three) costs-six).least is.0 is.1 in
    omega (arith, low, is.2, costs-six.first, costs-six.late)

pub returns-clause-not_more : goal.returns-clause-not_more
returns-clause-not_more c are = omega (arith, (are.each 3 (omega arith)).1 best (fits-best (cost_in six three) costs-six), costs-six.first, costs-six.late)

pub returns-clause-not_none : goal.returns-clause-not_none
returns-clause-not_none c are = are.each 3 (omega arith) best (fits-best (cost_in six three) costs-six)
