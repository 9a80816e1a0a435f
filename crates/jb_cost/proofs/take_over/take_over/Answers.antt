use Rattle.std.proofs.Common.{◌≡◌, ℕ, ◌+◌, ◌∷◌, ◌++◌, ◌<◌, [], T, cond, Some, length, set, refl, sym, ap, subst, ◌∙◌, arith, length-append, length-set, get_or-set_same, get_or-set_other, le_refl, nat_cmp}
use Rattle.std.specs.BTreeMap.{get}
use Rattle.std.specs.FinMap as map
use Rattle.std.proofs.lemmas.List.{get_or_read, get_or_push}
use Rattle.std.proofs.Math.ListN.{get_or-append}
use Rattle.jb_cost.specs.declared.owned.Touch.{Touch}
use Rattle.jb_cost.specs.declared.owned.Owned.{Owned}
use Rattle.jb_cost.specs.LastTouch.{IsIdle, owned_at, copies_of, frees_of, OwnsNoMore, later_touch}
use Rattle.jb_cost.proofs.MeetHomes.{one-kind, tied-is}
use Rattle.jb_cost.proofs.SpanChanges.{owners-pushed, owners-more, owners-as, owner, keeps-all, keeps-after, keeps-more, spans-kept}
use Rattle.jb_handle.proofs.RisingHomes.{find-whole}
use Rattle.jb_cost.proofs.HandleWords.{next-found}
use Rattle.jb_cost.proofs.take_over.take_over.Goals as goal

pub loop-home-init : goal.loop-home-init
loop-home-init c =
    let os = c.args.owned.now.items in
    let pushed : c.push.new.self.items ≡ os ++ c.none.result ∷ [] = c.in_ok-push.ensures.items in
    let none : IsIdle c.none.result = (c.none.ensures.copies, c.none.ensures.frees) in
    let here : owned_at c.push.new.self.items c.len-handle.result ≡ c.none.result = ap (λ l. owned_at l c.len-handle.result) pushed ∙ get_or_push os c.none.result _ c.len-handle.result (omega arith) in
    let same : (j : ℕ) → j < length os → owned_at c.push.new.self.items j ≡ owned_at os j = λ j below. ap (λ l. owned_at l j) pushed ∙ get_or-append os (c.none.result ∷ []) _ j below in
    record {
      at = omega arith;
      number = ap length pushed ∙ simp length-append (omega arith);
      owners = rw pushed (owners-pushed os c.args.last.now c.requires.owners c.none.result none);
      spans = keeps-after os os c.args.spans.now.items _ (keeps-all os _) c.requires.spans _ same;
      less = λ k below. subst (OwnsNoMore (owned_at os k)) (sym (same k below)) (le_refl _, le_refl _);
      follows = λ q. refl;
      few = omega (arith, ap copies_of here, ap frees_of here, none.0, none.1);
    }

pub lose-requires-clause-owner : goal.lose-requires-clause-owner
lose-requires-clause-owner c = owner c.loop-home.owned.items c.loop-home.last c.loop-home.invariant.owners _ _ c.in_ok-before.ensures.old

pub lose-requires-clause-spans : goal.lose-requires-clause-spans
lose-requires-clause-spans c = spans-kept c.args.owned.now.items c.loop-home.owned.items c.args.spans.now.items c.loop-home.spans.items c.loop-home.invariant.spans c.requires.spans (omega (arith, c.loop-home.invariant.number, c.loop-home.invariant.at))

pub loop-home-preserved : goal.loop-home-preserved
loop-home-preserved c =
    let os = c.args.owned.now.items in
    let was = c.loop-home.owned.items in
    let so_far = c.loop-home.invariant in
    let put = c.in_ok-before.ensures in
    let lost = c.lose.ensures in
    let mid = c.lose.new.owned.items in
    let t : Touch = record { handle = c.len-handle.result; copy = c.is_copy-copy.result } in
    let inside : t.handle < length mid = omega (arith, so_far.number, lost.number) in
    let read : c.index.result.now ≡ owned_at mid t.handle = get_or_read mid t.handle c.index.result.now inside c.index.ensures _ in
    let copied = c.with.ensures.copies ∙ ap (λ (o : Owned). o.copies + cond t.copy 1 0) read in
    let freed = c.with.ensures.frees ∙ ap (λ (o : Owned). o.frees + cond t.copy 0 1) read in
    let same : (j : ℕ) → j < length os → owned_at (set mid t.handle c.with.result) j ≡ owned_at mid j = λ j below. get_or-set_other mid t.handle j c.with.result _ (λ at. omega (arith, at, below, so_far.at)) in
    let here : owned_at (set mid t.handle c.with.result) t.handle ≡ c.with.result = get_or-set_same mid t.handle c.with.result _ inside in
    let rising : T (map.is_sorted nat_cmp c.entries-home-items.result.now) = rw c.entries-home-items.ensures (map.entries_sorted c.args.words.now) in
    record {
      at = so_far.at;
      number = simp length-set (lost.number ∙ so_far.number);
      owners = owners-more was c.loop-home.last so_far.owners _ _ put.old mid t c.with.result c.insert.new.self lost.number inside lost.copies lost.frees copied freed put.ordered put.entries put.updates.0;
      spans = keeps-after os mid c.args.spans.now.items _ (keeps-more os was _ _ so_far.spans mid _ lost.spans) c.requires.spans _ same;
      less = λ k below. let was = so_far.less k below in let now = lost.less k in subst (OwnsNoMore (owned_at os k)) (sym (same k below)) (omega (arith, was.0, now.0), omega (arith, was.1, now.1));
      follows = λ q.
          put.updates.0 q
          ∙ (λ k. cond (tied-is q c.loop-home-item.result.0 k) (Some (record { handle = t.handle; copy = c.is_copy-copy.ensures k })) (get nat_cmp c.loop-home.last q))
          ∙ next-found _ rising _ _ c.loop-home-item.is (omega arith) q (λ w. later_touch t.handle w (get nat_cmp c.args.last.now q)) _ (so_far.follows q);
      few = omega (arith, so_far.few, lost.less t.handle, ap copies_of here, ap frees_of here, copied, freed, one-kind t.copy);
    }

pub returns-in_err-push-clause-owners : goal.returns-in_err-push-clause-owners
returns-in_err-push-clause-owners c = rw c.in_err-push.ensures.items c.requires.owners

pub returns-in_err-before-clause-owners : goal.returns-in_err-before-clause-owners
returns-in_err-before-clause-owners c = owners-as c.loop-home.owned.items c.loop-home.last _ c.in_err-before.ensures.err c.loop-home.invariant.owners

pub returns-clause-follows : goal.returns-clause-follows
returns-clause-follows c q =
    c.loop-home.invariant.follows q
    ∙ ap (λ w. later_touch c.len-handle.result w (get nat_cmp c.args.last.now q)) (find-whole c.args.words.now _ c.entries-home-items.ensures c.loop-home.home-index q (omega arith))
    ∙ ap (λ n. later_touch n (map.get c.args.words.now q) (get nat_cmp c.args.last.now q)) c.loop-home.invariant.at
