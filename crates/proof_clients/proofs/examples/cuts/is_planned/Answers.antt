use Rattle.std.proofs.Common.{arith}
use Rattle.jb_plan.specs.Costs.{cost_in}
use Rattle.proof_clients.specs.Examples.{three, six}
use Rattle.proof_clients.proofs.ExampleCuts.{costs-six, is-best, first, are-prices}
use Rattle.proof_clients.proofs.examples.cuts.is_planned.Goals as goal

pub returns-clause-meets : goal.returns-clause-meets
returns-clause-meets c = record {
  least = is-best (cost_in six three) costs-six;
  sum = omega (arith, costs-six.first, costs-six.late);
  first = first (cost_in six three) costs-six;
  priced = are-prices (cost_in six three) costs-six;
}
