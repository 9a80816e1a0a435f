use Rattle.std.proofs.Common.{◌++◌, map, sym, ap, ◌∙◌}
use Rattle.jb_cost.specs.Pieces.{joined}
use Rattle.jb_desk.proofs.SeatStops.{joined-more}
use Rattle.jb_desk.specs.Seats.{made_left}
use Rattle.jb_journal.specs.Run.{stops_left_by}
use Rattle.jb_journal.proofs.thread_results.ThreadResults.add_left.Goals as goal

pub returns-in-Some-clause-stops : goal.returns-in-Some-clause-stops
returns-in-Some-clause-stops g c =
    let made = made_left {H = g.row.H.Denot} {O = g.H.Origin} {P = g.H.Place} in
    let before = joined (map made c.args.self.now.lefts.items) in
    ap (λ ls. joined (map made ls)) c.push_reserved.ensures.items
    ∙ joined-more made c.args.self.now.lefts.items c.in-Some.left ∙ ap (λ o. before ++ stops_left_by o) (sym c.in-Some.is)
