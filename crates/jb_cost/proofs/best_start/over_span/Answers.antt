use Rattle.std.proofs.Common.{rules, ◌≡◌, ◌+◌, ◌^◌, ◌≤◌, ◌∙◌, IsTrue, length, sym, ap, arith}
use Rattle.jb_cost.specs.Cost.{blocks_of}
use Rattle.jb_cost.specs.LastTouch.{owned_from, copies_of, frees_of}
use Rattle.jb_cost.specs.Starts.{dearer_by}
use Rattle.jb_cost.proofs.SpanSearch.{leap-best, leap-sums, span-room}
use Rattle.jb_cost.proofs.StretchSearch.{goes-earlier, idle-sums}
use Rattle.jb_cost.proofs.best_start.over_span.Goals as goal
use Rattle.jb_cost.proofs.best_start.over_span.Goals.{After-span-span, in-Some-least, in-None}

-- the sums so far are those of the handles from the span's end on
sums : (c : After-span-span) → (c.args.walk.tally.copies.entries ≡ owned_from copies_of c.args.owned.now c.in-Some.end) × (c.args.walk.tally.frees.entries ≡ owned_from frees_of c.args.owned.now c.in-Some.end)
sums c =
    let is = c.requires.walk.0 in
    let inside = c.in-Some.ensures.inside in
    let same = idle-sums c.args.owned.now c.args.walk.low c.in-Some.end inside.0 (omega (arith, inside.1, is.order.1)) (λ j above below. is.idle j above (omega (arith, inside.1, below))) in
    (is.copies ∙ same.0, is.frees ∙ same.1)

-- with the span they are within the size
room : (c : After-span-span) → (c.args.walk.tally.copies.entries + c.span-span.result.copies) + (c.args.walk.tally.frees.entries + c.span-span.result.frees) ≤ 2 ^ 62
room c = span-room c.span-span.ensures.span c.args.walk.tally (sums c) c.requires.few

pub plus-tally-requires : goal.plus-tally-requires
plus-tally-requires c = omega (arith, room (goal.at.plus-tally-requires c).After-span-span, c.owned.ensures.copies, c.owned.ensures.frees)

pub cost-requires : goal.cost-requires
cost-requires c = omega (arith, room (goal.at.cost-requires c).After-span-span, c.owned.ensures.copies, c.owned.ensures.frees, c.plus-tally.ensures.copies, c.plus-tally.ensures.frees)

pub cost-requires-in-Some-least : goal.cost-requires-in-Some-least
cost-requires-in-Some-least c = omega (arith, room (goal.at.cost-requires-in-Some-least c).After-span-span)

pub returns-clause-next : goal.returns-clause-next
returns-clause-next c =
    let to = c.in-Some.ensures in
    let span = c.span-span.ensures.span in
    let sums_now = leap-sums span c.args.walk.tally (sums (goal.at.returns-clause-next c).After-span-span) c.owned.result c.owned.ensures c.plus-tally.result c.plus-tally.ensures in
    goes-earlier sums_now (omega (arith, span.back, to.end.1)) (omega (arith, span.back, to.inside.1, c.requires.walk.0.order.1)) span.idle c.plus-tally.ensures.geometry

pub returns-clause-best : goal.returns-clause-best
returns-clause-best c ps fit tried =
    let to = c.in-Some.ensures in
    let s = c.span-span.result in
    let walk = c.args.walk.tally in
    let named : IsTrue c.names_as.result = search rules in
    let cost = blocks_of walk.geometry walk.copies.entries walk.frees.entries in
    let earlier : c.match-span.earlier ≡ dearer_by cost s.least = elim c.match-span.branch [
      | in-Some-least w ↦ w.earlier-is ∙ w.dearer.ensures ∙ (λ i. dearer_by (w.cost-in-Some-least.ensures i) (sym w.in-Some-least.is i))
      | in-None w ↦ w.earlier-is ∙ ap (dearer_by cost) (sym w.in-None.is)
    ] in
    rw c.better.ensures
    (leap-best c.span-span.ensures.span walk (sums (goal.at.returns-clause-best c).After-span-span) c.owned.result c.owned.ensures c.plus-tally.result c.plus-tally.ensures (c.names_as.ensures.0 named)
    c.args.limit c.args.walk.low (length c.args.owned.now) (omega (arith, c.span-span.ensures.span.back, to.end.1)) to.inside.0
    (omega (arith, c.if-cost-from.false, c.from.ensures, c.cost.ensures)) (omega (arith, c.requires.few)) (omega (arith, to.inside.1, c.requires.walk.0.order.1))
    ps c.args.walk.best c.match-span.earlier earlier (c.span-span.ensures.best ps fit) tried)
