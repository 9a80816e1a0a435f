use Rattle.std.proofs.Common.{◌≡◌, List, [], ◌∷◌, ◌++◌, get_or, length, map, refl, sym, ap, subst, ◌∙◌, arith}
use Rattle.jb_handle.specs.declared.stopped.Stopped.{Stopped}
use Rattle.jb_cost.specs.Pieces.{joined}
use Rattle.jb_deck.specs.declared.done.Entry.{Entry}
use Rattle.jb_book.specs.Account.{Account}
use Rattle.jb_book.specs.Calls.{BookCall, KeepsWhole, handles_in, out_of, settled_of, stops_of}
use Rattle.proof_clients.specs.Examples.{six, wrote}
use Rattle.proof_clients.specs.ExampleCalls.{HasCounted, settled_one, stopped_two}
use Rattle.proof_clients.proofs.examples.books.keeps_whole.Goals as goal

pub returns-clause-meets : goal.returns-clause-meets
returns-clause-meets c a has = record {
  same_shape = has.shape;
  numbered = (refl, (refl, tt));
  counted = sym has.next;
  running = λ up. ap (λ (q : List Stopped). joined (settled_of settled_one) ++ (joined (out_of settled_one) ++ q)) has.queued;
  rest = wrote [] 1 (2 ∷ []) ∷ [];
  first = refl;
  trail = sym (ap (λ (t : List Entry). map (handles_in (stops_of settled_one)) t) has.told);
}

pub returns-clause-meets_queued : goal.returns-clause-meets_queued
returns-clause-meets_queued c a has = record {
  same_shape = has.shape;
  numbered = (refl, (refl, tt));
  counted = sym has.next;
  running = λ up. has.queued;
  rest = wrote [] 0 (1 ∷ []) ∷ wrote [] 1 (2 ∷ []) ∷ [];
  first = refl;
  trail = sym (ap (λ (t : List Entry). map (handles_in (stops_of (stopped_two 0))) t) has.told);
}

-- what is in the groups and the queue is what stopped
whole : (calls : List BookCall) (queue : List Stopped) (trail : List Entry) (a : Account) → HasCounted queue trail a → KeepsWhole six calls a → joined (settled_of calls) ++ (joined (out_of calls) ++ queue) ≡ stops_of calls
whole calls queue trail a has keeps = subst (λ (q : List Stopped). joined (settled_of calls) ++ (joined (out_of calls) ++ q) ≡ stops_of calls) has.queued (keeps.running has.running)

-- the trail has what is settled
told : (calls : List BookCall) (queue : List Stopped) (trail : List Entry) (a : Account) → HasCounted queue trail a → KeepsWhole six calls a → settled_of calls ≡ map (handles_in (stops_of calls)) trail
told calls queue trail a has keeps = keeps.trail ∙ ap (λ (t : List Entry). map (handles_in (stops_of calls)) t) has.told

pub returns-clause-not_twice : goal.returns-clause-not_twice
returns-clause-not_twice c a has keeps = let long : 3 ≡ 2 = ap length (whole settled_one _ _ a has keeps) in omega (arith, long)

pub returns-clause-not_lost : goal.returns-clause-not_lost
returns-clause-not_lost c a has keeps = let short : 1 ≡ 2 = ap length (whole (stopped_two 0) _ _ a has keeps) in omega (arith, short)

pub returns-clause-not_order : goal.returns-clause-not_order
returns-clause-not_order c a has keeps =
    let other : 1 ≡ 0 = ap (λ (l : List Stopped). (get_or l 0 (wrote [] 9 [])).ticket) (whole (stopped_two 0) _ _ a has keeps) in
    omega (arith, other)

pub returns-clause-not_both : goal.returns-clause-not_both
returns-clause-not_both c a has keeps =
    let both : 1 ≡ 2 = ap (λ (l : List (List Stopped)). length (get_or l 0 [])) (told settled_one _ _ a has keeps) in
    omega (arith, both)

pub returns-clause-not_another : goal.returns-clause-not_another
returns-clause-not_another c a has keeps = let more : 1 ≡ 2 = ap length (told settled_one _ _ a has keeps) in omega (arith, more)
