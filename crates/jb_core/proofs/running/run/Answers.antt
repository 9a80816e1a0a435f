use Rattle.std.proofs.Common.{rules, ◌≡◌, true, false, [], ◌∷◌, ◌++◌, length, sym, ap, subst, ◌∙◌, arith, length-append, map-id}
use Rattle.std.proofs.lemmas.List.Elements.{All-push}
use Rattle.std.proofs.lemmas.Iterator.Consumers.{YieldsList-end, YieldsList-turn}
use Rattle.std.proofs.lemmas.Iterator.Adapters.{YieldsList-from_vec}
use Rattle.jb_core.specs.Lives.{EventLog, IsKnown}
use Rattle.jb_core.specs.MachineRuns.{RanFromStart}
use Rattle.jb_core.proofs.WholeLives.{log-more, whole}
use Rattle.jb_core.proofs.running.run.Goals as goal

pub loop-event-preserved : goal.loop-event-preserved
loop-event-preserved c =
    let items : c.push.new.self.items ≡ c.loop-event.answers.items ++ c.step-answer.result ∷ [] = search rules in
    let events = length-append c.loop-event.yielded (c.in-Some.event ∷ []) in
    let answers = ap length items ∙ length-append c.loop-event.answers.items (c.step-answer.result ∷ []) in
    record {
      same = omega (arith, events, answers, c.loop-event.invariant.same);
      known = rw items (All-push IsKnown c.loop-event.answers.items c.step-answer.result c.loop-event.invariant.known (λ is. let same : c.eq.result ≡ true = rw is at c.eq.ensures in let lacks : c.eq.result ≡ false = c.if-eq.false in let h : ⊥ = cc in h));
      ran = rw items (subst (λ (log : EventLog). RanFromStart c.args.shape log c.step-answer.new.state) (sym (log-more [] c.loop-event.yielded c.loop-event.answers.items c.in-Some.event c.step-answer.result c.loop-event.invariant.same))
          (c.loop-event.state, c.loop-event.invariant.ran, c.step-answer.ensures));
    }

-- ---- at the end every event has happened

pub returns-clause-each : goal.returns-clause-each
returns-clause-each c =
    let end = YieldsList-end (YieldsList-from_vec {s = c.into_iter-event-iterator.result} c.args.events.items (search rules) (search rules)) c.loop-event.yielded c.loop-event.event-iterator c.loop-event.yielded_by c.next.result c.next.new.self c.in-None.is c.next.ensures.steps in
    sym c.loop-event.invariant.same ∙ end.1

pub returns-clause-known : goal.returns-clause-known
returns-clause-known c = c.loop-event.invariant.known

pub returns-clause-ran : goal.returns-clause-ran
returns-clause-ran c =
    let end = YieldsList-end (YieldsList-from_vec {s = c.into_iter-event-iterator.result} c.args.events.items (search rules) (search rules)) c.loop-event.yielded c.loop-event.event-iterator c.loop-event.yielded_by c.next.result c.next.new.self c.in-None.is c.next.ensures.steps in
    rw (← (sym (map-id c.loop-event.yielded) ∙ end.0)) c.loop-event.invariant.ran

pub returns-clause-whole : goal.returns-clause-whole
returns-clause-whole c =
    let end = YieldsList-end (YieldsList-from_vec {s = c.into_iter-event-iterator.result} c.args.events.items (search rules) (search rules)) c.loop-event.yielded c.loop-event.event-iterator c.loop-event.yielded_by c.next.result c.next.new.self c.in-None.is c.next.ensures.steps in
    rw (← (sym (map-id c.loop-event.yielded) ∙ end.0)) (whole c.args.shape _ c.loop-event.state c.loop-event.invariant.ran)

pub returns-then-eq-clause-grows : goal.returns-then-eq-clause-grows
returns-then-eq-clause-grows c =
    let turn = YieldsList-turn (YieldsList-from_vec {s = c.into_iter-event-iterator.result} c.args.events.items (search rules) (search rules)) c.loop-event.yielded c.loop-event.event-iterator c.loop-event.yielded_by c.next.result c.next.new.self c.in-Some.event c.in-Some.is c.next.ensures.steps in
    omega (arith, turn.0)

pub returns-in_default-clause-grows : goal.returns-in_default-clause-grows
returns-in_default-clause-grows c =
    let turn = YieldsList-turn (YieldsList-from_vec {s = c.into_iter-event-iterator.result} c.args.events.items (search rules) (search rules)) c.loop-event.yielded c.loop-event.event-iterator c.loop-event.yielded_by c.next.result c.next.new.self c.in-Some.event c.in-Some.is c.next.ensures.steps in
    omega (arith, turn.0)
