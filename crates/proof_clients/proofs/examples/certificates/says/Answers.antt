use Rattle.std.proofs.Common.{◌≡◌, ℕ, Vec, Global, refl, arith}
use Rattle.std.proofs.lemmas.Option.{same_Some}
use Rattle.jb_plan.specs.Costs.{cost_in}
use Rattle.jb_price.specs.Verdict.{IsRight}
use Rattle.jb_price.specs.declared.certificate.CertAnswer.TheVariants.{Cut, NoCut}
use Rattle.jb_price.proofs.Verdicts.{planned-accepted}
use Rattle.proof_clients.specs.Examples.{three, six, four, best, prices, four_prices}
use Rattle.proof_clients.proofs.ExampleCuts.{costs-six, costs-four, is-best, none-fits, are-prices, are-four-prices}
use Rattle.proof_clients.proofs.examples.certificates.says.Goals as goal

right : (bounds : Vec ℕ Global) → bounds.items ≡ best → IsRight (cost_in six three) 6 3 (Cut bounds 9)
right bounds are = (rw are (is-best (cost_in six three) costs-six), rw are (omega (arith, costs-six.first, costs-six.late)))

pub returns-clause-meets : goal.returns-clause-meets
returns-clause-meets c bounds are =
    (planned-accepted (cost_in six three) 6 3 prices (Cut bounds 9) (are-prices (cost_in six three) costs-six) (right bounds are)).0

pub returns-clause-meets_none : goal.returns-clause-meets_none
returns-clause-meets_none c =
    (planned-accepted (cost_in four three) 4 3 four_prices NoCut (are-four-prices (cost_in four three) costs-four) (none-fits (cost_in four three) costs-four)).0

pub returns-clause-not_otherwise : goal.returns-clause-not_otherwise
returns-clause-not_otherwise c bounds verdict are says =
    (planned-accepted (cost_in six three) 6 3 prices (Cut bounds 9) (are-prices (cost_in six three) costs-six) (right bounds are)).1 verdict says

pub returns-clause-not_greedy : goal.returns-clause-not_greedy
returns-clause-not_greedy c bounds are says = omega (arith, same_Some 9 11 says.1.end_price)

pub returns-clause-not_total : goal.returns-clause-not_total
returns-clause-not_total c bounds ps are says = omega (arith, rw are at says.1.sums, costs-six.first, costs-six.late)

pub returns-clause-not_high : goal.returns-clause-not_high
returns-clause-not_high c answer says =
    says.0.no_undercut 1 3 (record {
      before = omega arith;
      within = omega arith;
      fits = omega (arith, costs-six.late);
      cheaper = (4, refl, omega (arith, costs-six.late));
    })

pub returns-clause-not_undercut : goal.returns-clause-not_undercut
returns-clause-not_undercut c answer says =
    says.0.no_undercut 1 3 (record {
      before = omega arith;
      within = omega arith;
      fits = omega (arith, costs-six.late);
      cheaper = (4, refl, tt);
    })
