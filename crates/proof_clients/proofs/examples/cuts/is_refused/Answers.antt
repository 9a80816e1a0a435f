use Rattle.std.proofs.Common.{arith}
use Rattle.jb_plan.specs.Costs.{cost_in}
use Rattle.proof_clients.specs.Examples.{three, six, four, best}
use Rattle.proof_clients.proofs.ExampleCuts.{costs-six, costs-four, fits-best, none-fits, are-four-prices}
use Rattle.proof_clients.proofs.examples.cuts.is_refused.Goals as goal

pub returns-clause-meets : goal.returns-clause-meets
returns-clause-meets c ps are = (λ has. none-fits (cost_in four three) costs-four has.0 has.1, rw are (are-four-prices (cost_in four three) costs-four))

pub returns-clause-not_with_a_cut : goal.returns-clause-not_with_a_cut
returns-clause-not_with_a_cut c ps refused = refused.0 (best, fits-best (cost_in six three) costs-six)

pub returns-clause-not_priced : goal.returns-clause-not_priced
returns-clause-not_priced c ps are refused =
    let is = ((rw are at refused.1).each 3 (omega arith)).0 in
    none-fits (cost_in four three) costs-four is.0 is.1
