use Rattle.std.proofs.Common.{◌≡◌, [], ◌∷◌, ◌≤◌, length, sym, ap, ap₂, subst, ◌∙◌, arith}
use Rattle.jb_cost.specs.Cut.{IsLeastCut, total}
use Rattle.jb_plan.specs.Batch.{Gathered, gathered}
use Rattle.jb_plan.specs.Costs.{cost_in}
use Rattle.jb_plan.specs.Prepare.{planned}
use Rattle.proof_clients.specs.Examples.{three, six, best, greedy, batch}
use Rattle.proof_clients.specs.ExampleCalls.{entry_of}
use Rattle.proof_clients.proofs.ExampleCuts.{costs-six, fits-best}
use Rattle.proof_clients.proofs.ExampleIdle.{idle}
use Rattle.proof_clients.proofs.ExampleRounds.{cuts-one, some-entry, two-groups}
use Rattle.proof_clients.proofs.examples.rounds.cuts_round.Goals as goal

pub returns-clause-meets : goal.returns-clause-meets
returns-clause-meets g c d done first are =
    (planned (gathered 0 (idle 0 ∷ []) six) (0 ∷ 1 ∷ []) 1 [], record { next = omega arith; some = omega arith }, cuts-one g.D.Disk d done first are)

pub returns-clause-not_empty : goal.returns-clause-not_empty
returns-clause-not_empty g c seen held done none is =
    let cut = is.2 in
    some-entry (cost_in is.0.batch.shape is.0.batch.handles) is.0.batch.first cut.old.log.next (length is.0.batch.handles) is.0.groups cut.least.fitting.cut is.1.some (sym cut.entries ∙ none)

pub returns-clause-not_greedy : goal.returns-clause-not_greedy
returns-clause-not_greedy g c seen more fewer done are is =
    let cut = is.2 in
    let same : is.0.batch ≡ batch six = is.1.next in
    let two = two-groups (cost_in is.0.batch.shape is.0.batch.handles) is.0.batch.first cut.old.log.next (length is.0.batch.handles) is.0.groups (entry_of 7 0 2 more) (entry_of 8 2 3 fewer) cut.least.fitting.cut (sym are ∙ cut.entries) in
    let first : is.0.batch.first ≡ 0 = ap (λ (b : Gathered). b.first) same in
    let number : length is.0.batch.handles ≡ 3 = ap (λ (b : Gathered). length b.handles) same in
    let middle : two.middle ≡ 2 = omega (arith, two.past, first) in
    let least : IsLeastCut (cost_in six three) 6 3 is.0.groups = subst (λ (b : Gathered). IsLeastCut (cost_in b.shape b.handles) b.shape.limit (length b.handles) is.0.groups) same cut.least in
    let are_greedy : is.0.groups ≡ greedy = two.are ∙ ap₂ (λ x y. 0 ∷ x ∷ y ∷ []) middle number in
    let less : total (cost_in six three) greedy ≤ total (cost_in six three) best =
    subst (λ bounds. total (cost_in six three) bounds ≤ total (cost_in six three) best) are_greedy (least.least best (fits-best (cost_in six three) costs-six)) in
    omega (arith, less, costs-six.first, costs-six.late, costs-six.early, costs-six.third)

pub returns-clause-not_later : goal.returns-clause-not_later
returns-clause-not_later g c seen done late is =
    let first : is.0.batch.first ≡ 0 = ap (λ (b : Gathered). b.first) is.1.next in
    omega (arith, is.2.first, late, first)

pub returns-clause-not_number : goal.returns-clause-not_number
returns-clause-not_number g c seen one two held done are is =
    let cut = is.2 in
    let both = two-groups (cost_in is.0.batch.shape is.0.batch.handles) is.0.batch.first cut.old.log.next (length is.0.batch.handles) is.0.groups (entry_of 7 0 1 one) (entry_of 7 1 3 two) cut.least.fitting.cut (sym are ∙ cut.entries) in
    omega (arith, both.number_one, both.number_two)

pub returns-clause-not_last : goal.returns-clause-not_last
returns-clause-not_last g c one two done are is =
    let cut = is.2 in
    let both = two-groups (cost_in is.0.batch.shape is.0.batch.handles) is.0.batch.first cut.old.log.next (length is.0.batch.handles) is.0.groups (entry_of 7 0 1 one) (entry_of 8 1 2 two) cut.least.fitting.cut (sym are ∙ cut.entries) in
    omega (arith, both.last, is.1.next)
