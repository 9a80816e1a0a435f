use Rattle.std.proofs.Common.{◌≡◌, length, refl, sym, ap, arith}
use Rattle.jb_plan.specs.Batch.{gathered}
use Rattle.jb_plan.specs.Costs.{cost_in}
use Rattle.proof_clients.specs.Examples.{three, six, four, best}
use Rattle.proof_clients.proofs.ExampleCuts.{costs-six, costs-four, fits-best, is-best, none-fits}
use Rattle.proof_clients.proofs.examples.cuts.has_cut.Goals as goal

pub returns-clause-meets : goal.returns-clause-meets
returns-clause-meets c = (best, fits-best (cost_in six three) costs-six)

pub returns-clause-not_within_four : goal.returns-clause-not_within_four
returns-clause-not_within_four c has = none-fits (cost_in four three) costs-four has.0 has.1

pub returns-clause-meets_whole : goal.returns-clause-meets_whole
returns-clause-meets_whole c old can queue shape =
    (can, (λ i. gathered old.shadow.taken (sym queue i) (sym shape i)), is-best (cost_in six three) costs-six, refl)

pub returns-clause-not_without_last : goal.returns-clause-not_without_last
returns-clause-not_without_last c old new cut queue does =
    let two : 2 ≡ length old.shadow.queue = ap (λ b. length b.handles) does.1 in
    let three : length old.shadow.queue ≡ 3 = ap length queue in
    omega (arith, two, three)
