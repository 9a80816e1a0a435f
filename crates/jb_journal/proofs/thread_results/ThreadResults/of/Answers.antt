use Rattle.std.proofs.Common.{[], ◌++◌, map, ap, ◌∙◌}
use Rattle.jb_cost.specs.Pieces.{joined}
use Rattle.jb_desk.specs.Seats.{made_left}
use Rattle.jb_journal.specs.Run.{stops_left_by, stops_of_worked}
use Rattle.jb_journal.proofs.thread_results.ThreadResults.of.Goals as goal

pub returns-clause-gathered : goal.returns-clause-gathered
returns-clause-gathered g c =
    let made = made_left {H = g.row.H.Denot} {O = g.H.Origin} {P = g.H.Place} in
    let stopped = joined (map (stops_of_worked {T = g.row.T.Denot} {D = g.row.D.Denot} {H = g.row.H.Denot} {O = g.H.Origin} {P = g.H.Place}) c.args.ran.workers.items) in
    let none = ap (λ ls. ls.items) c.new-gathered.ensures.0 ∙ c.requires.lefts.none in
    record {
      answers = c.add_all.ensures.answers;
      stops = c.add_all.ensures.stops ∙ ap (λ xs. xs ++ stopped) (c.add_left.ensures.stops ∙ ap (λ ls. joined (map made ls) ++ stops_left_by c.args.ran.committer) none);
      seen = c.add_all.ensures.seen;
    }
