use Rattle.std.proofs.Common.{◌∷◌, ◌++◌, [], ◌<◌, List, All, length, map, rules, sym, ap, subst, ◌∙◌, append_assoc, map-id, arith, length-append}
use Rattle.std.proofs.lemmas.List.Elements.{All-push, All-weaker}
use Rattle.std.proofs.lemmas.Iterator.Consumers.{YieldsList-end, YieldsList-turn}
use Rattle.std.proofs.lemmas.Iterator.Adapters.{YieldsList-from_vec}
use Rattle.jb_cost.specs.Pieces.{joined}
use Rattle.jb_desk.proofs.SeatStops.{joined-more}
use Rattle.jb_desk.specs.Seats.{made_left}
use Rattle.jb_journal.specs.Gather.{answers_of}
use Rattle.jb_journal.specs.Run.{HasAllSeen, stops_of_worked}
use Rattle.jb_journal.specs.declared.threads.WorkerResult.{WorkerResult}
use Rattle.jb_journal.proofs.ClientNotes.{sees-trans}
use Rattle.jb_journal.proofs.thread_results.ThreadResults.add_all.Goals as goal

pub loop-worked-preserved : goal.loop-worked-preserved
loop-worked-preserved g c =
    let W = WorkerResult g.row.T.Denot g.row.D.Denot g.row.H.Denot g.H.Origin g.H.Place in
    let w : W = c.in-Some.worked in
    let ws = c.loop-worked.yielded in
    let initial = joined (map (made_left {H = g.row.H.Denot} {O = g.H.Origin} {P = g.H.Place}) c.args.self.now.lefts.items) in
    record {
      answers = c.add.ensures.answers ∙ ap (λ xs. xs ++ answers_of w) c.loop-worked.invariant.answers ∙ sym (joined-more (λ (x : W). answers_of x) ws w);
      stops =
          c.add.ensures.stops ∙ ap (λ xs. xs ++ stops_of_worked w) c.loop-worked.invariant.stops ∙ append_assoc initial (joined (map (λ (x : W). stops_of_worked x) ws)) (stops_of_worked w)
          ∙ ap (λ xs. initial ++ xs) (sym (joined-more (λ (x : W). stops_of_worked x) ws w));
      seen =
          All-push (HasAllSeen c.add.new.self.seen) ws w
          (All-weaker (HasAllSeen c.loop-worked.self.seen) (HasAllSeen c.add.new.self.seen) (λ (x : W) more. sees-trans x.seen c.loop-worked.self.seen c.add.new.self.seen more c.add.ensures.seen.0) ws c.loop-worked.invariant.seen)
          c.add.ensures.seen.1;
      lefts_room = c.add.ensures.lefts_room.0 ∙ c.loop-worked.invariant.lefts_room;
      lefts = omega (arith, c.add.ensures.lefts_room.1, c.loop-worked.invariant.lefts, length-append ws (w ∷ []));
      answers_room = c.add.ensures.answers_room.0 ∙ c.loop-worked.invariant.answers_room;
      given = omega (arith, c.add.ensures.answers_room.1, c.loop-worked.invariant.given, length-append ws (w ∷ []));
    }

pub returns : goal.returns
returns g c =
    let W = WorkerResult g.row.T.Denot g.row.D.Denot g.row.H.Denot g.H.Origin g.H.Place in
    let initial = joined (map (made_left {H = g.row.H.Denot} {O = g.H.Origin} {P = g.H.Place}) c.args.self.now.lefts.items) in
    let end = YieldsList-end (YieldsList-from_vec {s = c.into_iter-worked-iterator.result} c.args.workers.items (search rules) (search rules)) c.loop-worked.yielded c.loop-worked.worked-iterator c.loop-worked.yielded_by c.next.result c.next.new.self c.in-None.is c.next.ensures.steps in
    let all = sym (map-id c.loop-worked.yielded) ∙ end.0 in
    record {
      seen = subst (All (HasAllSeen c.loop-worked.self.seen)) all c.loop-worked.invariant.seen;
      answers = c.loop-worked.invariant.answers ∙ ap (λ (ws : List W). joined (map (λ (w : W). answers_of w) ws)) all;
      stops = c.loop-worked.invariant.stops ∙ ap (λ (ws : List W). initial ++ joined (map (λ (w : W). stops_of_worked w) ws)) all;
    }
