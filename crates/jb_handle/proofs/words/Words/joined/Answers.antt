use Rattle.std.proofs.Common.{◌≡◌, ◌<◌, ◌-◌, IfOk, OnErr, length, drop, refl, ap, sym, subst, ◌∙◌, arith, nat_cmp}
use Rattle.std.proofs.lemmas.List.{drop_all}
use Rattle.std.specs.Option.{option_or}
use Rattle.std.specs.FinMap as map
use Rattle.jb_handle.specs.declared.stopped.Stopped.{Stopped}
use Rattle.jb_handle.specs.Words.{word, words_of}
use Rattle.jb_block.proofs.Refusals.{on-refusal}
use Rattle.jb_handle.proofs.GatherWords.{handle-earlier, handles-whole, some-words}
use Rattle.jb_handle.proofs.words.Words.joined.Goals as goal
use Rattle.jb_handle.proofs.words.Words.joined.Goals.{After-into_words}

pub loop-at-init : goal.loop-at-init
loop-at-init c q = rw (c.new-gathered.ensures, map.get-empty nat_cmp q, drop_all (length c.args.handles.now) c.args.handles.now (omega arith)) refl

pub returns-in_err-add_all-clause-err : goal.returns-in_err-add_all-clause-err
returns-in_err-add_all-clause-err c =
    on-refusal c.from_residual.result (some-words c.args.handles.now (c.loop-at.at - 1) c.index-handles-at.result c.index-handles-at.is (omega arith) (subst (λ (h : Stopped). 0 < map.len h.words) (sym c.index-handles-at.is) c.in_err-add_all.ensures.err))

pub loop-at-preserved : goal.loop-at-preserved
loop-at-preserved c q =
    handle-earlier c.args.handles.now (c.loop-at.at - 1) c.loop-at.at c.index-handles-at.result (omega arith) c.index-handles-at.is (omega arith) c.loop-at.gathered _ q (c.in_ok-add_all.ensures.ok q ∙ ap (λ (h : Stopped). option_or (map.get c.loop-at.gathered q) (map.get h.words q)) (sym c.index-handles-at.is)) (c.loop-at.invariant q)

whole : (c : After-into_words) → c.loop-at.gathered ≡ words_of c.args.handles.now
whole c =
    let none : c.loop-at.at ≡ 0 = omega arith in
    handles-whole c.args.handles.now c.loop-at.gathered (λ q. c.loop-at.invariant q ∙ ap (λ k. word (drop k c.args.handles.now) q) none)

pub returns-clause-ok : goal.returns-clause-ok
returns-clause-ok c = subst (λ m. IfOk c.into_words.result (λ words. words ≡ m)) (whole c) c.into_words.ensures.ok

pub returns-clause-err : goal.returns-clause-err
returns-clause-err c = subst (λ m. OnErr c.into_words.result (0 < map.len m)) (whole c) c.into_words.ensures.err
