use Rattle.std.proofs.Common.{sym, ap, refl, ◌∙◌, arith}
use Rattle.jb_cost.specs.Cut.{piece_cost}
use Rattle.jb_cost.specs.LastTouch.{owned_cost}
use Rattle.jb_cost.proofs.TouchCosts.{cost-piece}
use Rattle.jb_cost.proofs.BestStarts.{best-as}
use Rattle.jb_cost.proofs.last_touches.LastTouches.best.Goals as goal

pub returns-clause-tells : goal.returns-clause-tells
returns-clause-tells c g hs n ps tells =
    let os = c.args.self.now.owned.items in
    let cost = owned_cost c.args.self.now.geometry os in
    let still = rw c.deref.ensures.value at c.best_start.ensures.fit in
    let found = rw c.deref.ensures.value at (c.best_start.ensures.best ps) in (
      record { geometry = tells.geometry; number = tells.number; within = tells.within; follows = tells.follows; prices = still.prices ps tells.prices },
      best-as cost (λ i. piece_cost g hs i n) c.args.limit ps ps 0 n
          (λ i above below. ap (λ x. owned_cost x os i) tells.geometry ∙ sym (cost-piece g hs n ps c.args.self.now c.requires.sound tells i (omega arith)))
          (λ i below. refl)
          c.best_start.result (rw tells.number at (found tells.prices)),
    )
