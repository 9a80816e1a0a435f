use Rattle.std.proofs.Common.{sym, ap}
use Rattle.jb_board.proofs.history.History.learn.Goals as goal

pub tell-requires-clause-other : goal.tell-requires-clause-other
tell-requires-clause-other g c = (c.share-seat.ensures.seen.0, ap (λ m. m.1) c.share-seat.ensures.seen.1)

-- what was seen before begins what is seen now
pub returns-clause-own : goal.returns-clause-own
returns-clause-own g c =
    let saw = c.observe.ensures.saw in
    rw (sym c.prefix.view_is, ap (λ m. m.0.seen) saw.2, sym (ap (λ m. m.0.seen) c.tell.ensures.told)) saw.1.seen

-- and what the other has seen
pub returns-clause-other : goal.returns-clause-other
returns-clause-other g c =
    let saw = c.observe.ensures.saw in
    rw (sym c.other.view_is, ap (λ m. m.0.seen) saw.2, sym (ap (λ m. m.0.seen) c.share-seat.ensures.seen.1), sym (ap (λ m. m.0.told) c.tell.ensures.told)) saw.1.told
