use Rattle.std.proofs.Common.{◌≡◌, ◌+◌, ◌<◌, ◌≤◌, T, None, length, sym, ap, subst, ◌∙◌, arith, Err, IfErr, OnOk, rules}
use Rattle.std.specs.Ordering.{nat_cmp}
use Rattle.std.specs.Cmp.{nat_cmp_total}
use Rattle.std.specs.FinMap as map
use Rattle.jb_handle.specs.Handle.{holder, changes_of}
use Rattle.jb_handle.specs.Word.{WordMap}
use Rattle.jb_handle.specs.declared.word.Word.{Word}
use Rattle.jb_handle.proofs.GatherWords.{word-more, words-whole}
use Rattle.jb_handle.specs.declared.changes.TouchFault.{TouchFault}
use Rattle.jb_tool.specs.Faults.{not_touched}
use Rattle.jb_tool.specs.RefusedHandle.{IsRefusedFor}
use Rattle.jb_tool.proofs.HandleRefusals.{few-more, not-touched}
use Rattle.jb_handle.proofs.Options.{or-nothing}
use Rattle.jb_tool.proofs.loading.words.put_words.Goals as goal

pub loop-home-init : goal.loop-home-init
loop-home-init g c = record {
  seat = λ i. holder c.args.handle.now;
  shape = λ i. (changes_of c.args.handle.now).shape;
  words = λ fresh q. ap (λ m. map.get m q) fresh ∙ map.get-empty nat_cmp q;
  few = λ fresh. (let none = ap map.len fresh ∙ map.len-empty nat_cmp Word in omega (arith, none));
}

pub loop-home-preserved : goal.loop-home-preserved
loop-home-preserved g c =
    let rising : T (map.is_sorted nat_cmp c.entries-home-items.result.now) = subst (λ es. T (map.is_sorted nat_cmp es)) (sym c.entries-home-items.ensures) (map.entries_sorted c.args.words.now) in
    let inside : c.loop-home.home-index < length c.entries-home-items.result.now = omega arith in
    record {
      seat = c.put.ensures.seat ∙ c.loop-home.invariant.seat;
      shape = ap (λ h. h.shape) c.in_ok-put.ensures.ok ∙ c.loop-home.invariant.shape;
      words = λ fresh q. word-more _ rising c.loop-home.home-index c.loop-home-item.result c.loop-home-item.is inside (changes_of c.loop-home.handle).words _ _ (λ i. c.loop-home-item.result.1) (ap (λ h. h.words) c.in_ok-put.ensures.ok) q None (c.loop-home.invariant.words fresh q);
      few = λ fresh.
          subst (λ (m : WordMap). map.len m ≤ c.loop-home.home-index + 1) (sym (ap (λ h. h.words) c.in_ok-put.ensures.ok))
          (few-more (changes_of c.loop-home.handle).words c.loop-home-item.result.0 c.loop-home.home-index c.loop-home-item.result.1 (c.loop-home.invariant.few fresh));
    }

pub returns-clause-ok : goal.returns-clause-ok
returns-clause-ok g c = λ fresh.
    map.same_map nat_cmp_total map.nat_cmp-IsAntisymmetric (changes_of c.loop-home.handle).words c.args.words.now (λ q.
    c.loop-home.invariant.words fresh q
    ∙ words-whole c.args.words.now _ c.entries-home-items.ensures c.loop-home.home-index (omega arith) q None
    ∙ or-nothing (map.get c.args.words.now q))

pub returns-in_err-put : goal.returns-in_err-put
returns-in_err-put g c =
    let fault : TouchFault = c.in_err-put.field-0.0 in
    let is : c.from_residual.result ≡ Err fault = search rules in
    let inside : c.loop-home.home-index < length c.entries-home-items.result.now = omega arith in
    record {
      seat = c.in_err-put.ensures.seat ∙ c.loop-home.invariant.seat;
      ok = λ fresh. subst (λ r. OnOk r ((changes_of c.put.new.self).words ≡ c.args.words.now)) (sym is) tt;
      refused = λ fresh.
          subst (λ r. IfErr r (λ f. IsRefusedFor (changes_of c.args.handle.now).shape c.args.words.now (not_touched f))) (sym is)
          (subst (λ shape. IsRefusedFor shape c.args.words.now (not_touched fault)) c.loop-home.invariant.shape
          (not-touched (changes_of c.loop-home.handle) c.args.words.now c.entries-home-items.result.now c.entries-home-items.ensures c.loop-home.home-index c.loop-home-item.result c.loop-home-item.is inside (c.loop-home.invariant.few fresh) fault c.in_err-put.ensures.refused));
    }
