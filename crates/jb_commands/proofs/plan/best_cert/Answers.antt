use Rattle.std.proofs.Common.{◌≡◌, ℕ, List, Option, length}
use Rattle.jb_cost.specs.Cut.{ArePrices, piece_cost}
use Rattle.jb_plan.specs.Plan.{Answers}
use Rattle.jb_plan.specs.declared.planned.Answer.{Answer}
use Rattle.jb_plan.specs.declared.planned.Answer.TheVariants.{Cut, NoCut}
use Rattle.jb_plan.specs.declared.planned.Planned.{Planned}
use Rattle.jb_price.specs.Verdict.{IsRight}
use Rattle.jb_price.specs.declared.certificate.Cert.{Cert}
use Rattle.jb_commands.specs.Plan.{IsBestCert, IsEarliestCut, told_as}
use Rattle.jb_commands.proofs.plan.best_cert.Goals as goal

module _ (c : ℕ → ℕ → ℕ) (limit n : ℕ) where
  told_right : (ps : List (Option ℕ)) (answer : Answer) → Answers c limit n ps answer → IsRight c limit n (told_as answer)
  told_right ps (Cut bounds sum) says = (says.0, says.1)
  told_right ps NoCut says = says

  told_chosen : (ps : List (Option ℕ)) (answer : Answer) → Answers c limit n ps answer → IsEarliestCut c limit ps (told_as answer)
  told_chosen ps (Cut bounds sum) says = says.2
  told_chosen ps NoCut says = tt

  told_best : (planned : Planned) (cert : Cert) → ArePrices c limit n planned.prices.items
      → Answers c limit n planned.prices.items planned.answer → cert.prices ≡ planned.prices → cert.answer ≡ told_as planned.answer
      → IsBestCert c limit n cert
  told_best planned cert prices answers same told =
      record {
        prices = rw same prices;
        right = rw told (told_right planned.prices.items planned.answer answers);
        chosen = rw (same, told) (told_chosen planned.prices.items planned.answer answers);
      }

pub returns : goal.returns
returns c =
    let queue = c.args.queue.now in
    let g = c.of-geometry.result in
    let handles = queue.handles.items in
    let prices = rw c.as_slice.ensures.value at c.in_ok-planned.ensures.prices in
    let answers = rw c.as_slice.ensures.value at c.in_ok-planned.ensures.answer in
    let best = told_best (piece_cost g handles) queue.limit (length handles) c.in_ok-planned.planned c.cert_of.result
    prices answers c.cert_of.ensures.prices c.cert_of.ensures.answer in
    record { best = (g, (c.of-geometry.ensures.tags, c.of-geometry.ensures.entries), best) }
