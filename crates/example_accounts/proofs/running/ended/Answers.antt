use Rattle.std.proofs.Common.{rules, ◌++◌, ◌∷◌, [], All, sym, ap, subst, ◌∙◌, map-id, arith, length-append}
use Rattle.std.proofs.lemmas.List.{map_push}
use Rattle.std.proofs.lemmas.List.Elements.{All-push}
use Rattle.std.proofs.lemmas.Iterator.Consumers.{YieldsList-end}
use Rattle.std.proofs.lemmas.Iterator.Adapters.{YieldsList-from_vec}
use Rattle.jb_journal.specs.Names.{IsFirstPart}
use Rattle.example_accounts.specs.Conserved.{ended_of}
use Rattle.example_accounts.specs.declared.moving.Moved.{Moved}
use Rattle.example_accounts.proofs.running.ended.Goals as goal

pub loop-moved-preserved : goal.loop-moved-preserved
loop-moved-preserved g c =
    let w : Moved g.row.L.Denot = c.in-Some.moved in
    let ws = c.loop-moved.yielded in
    let before = c.loop-moved.invariant in
    let first = subst (IsFirstPart w.seen) before.kept c.check.ensures.prefix in
    record {
      kept = c.check.ensures.kept ∙ before.kept;
      seen = All-push (λ (m : Moved g.row.L.Denot). IsFirstPart m.seen c.args.postings.now) ws w before.seen first;
      ended = c.push_reserved.ensures.items ∙ ap (λ xs. xs ++ w.ended ∷ []) before.ended ∙ sym (map_push ended_of ws w);
      given = omega (arith, c.push_reserved.ensures.len, before.given, length-append ws (w ∷ []));
      room = c.push_reserved.ensures.capacity ∙ before.room;
    }

pub returns-clause-seen : goal.returns-clause-seen
returns-clause-seen g c =
    let end = YieldsList-end (YieldsList-from_vec {s = c.into_iter-moved-iterator.result} c.args.answers.items (search rules) (search rules)) c.loop-moved.yielded c.loop-moved.moved-iterator c.loop-moved.yielded_by c.next.result c.next.new.self c.in-None.is c.next.ensures.steps in
    let all = sym (map-id c.loop-moved.yielded) ∙ end.0 in
    subst (All (λ (m : Moved g.row.L.Denot). IsFirstPart m.seen c.args.postings.now)) all c.loop-moved.invariant.seen
