use Rattle.std.proofs.Common.{◌<◌, T, Some, length, sym, ap, ◌∙◌, arith, nat_cmp}
use Rattle.std.specs.FinMap as map
use Rattle.jb_handle.specs.Words.{is_copied, is_freed}
use Rattle.jb_cost.proofs.HandleWords.{next-is}
use Rattle.jb_handle.proofs.TouchedHomes.{copied-is_of, freed-is_of}
use Rattle.jb_cost.specs.NewHomes.{later}
use Rattle.jb_handle.proofs.RisingHomes.{find-whole}
use Rattle.std.specs.BTreeSet.{contains}
use Rattle.jb_block.proofs.Refusals.{on-refusal}
use Rattle.jb_cost.proofs.last_words.LastWords.put_all.Goals as goal

pub loop-home-preserved : goal.loop-home-preserved
loop-home-preserved c =
    let rising : T (map.is_sorted nat_cmp c.entries-home-items.result.now) = rw c.entries-home-items.ensures (map.entries_sorted c.args.words.now) in
    let inside : c.loop-home.home-index < length c.entries-home-items.result.now = omega arith in
    record {
      copies = λ q. c.in_ok-put.ensures.copies q ∙ next-is _ rising _ _ c.loop-home-item.is inside q _ _ is_copied _ (sym (copied-is_of (Some c.loop-home-item.result.1))) (c.loop-home.invariant.copies q);
      frees = λ q. c.in_ok-put.ensures.frees q ∙ next-is _ rising _ _ c.loop-home-item.is inside q _ _ is_freed _ (sym (freed-is_of (Some c.loop-home-item.result.1))) (c.loop-home.invariant.frees q);
    }

pub returns-clause-copies : goal.returns-clause-copies
returns-clause-copies c q =
    c.loop-home.invariant.copies q
    ∙ ap (λ w. later is_copied w (contains nat_cmp c.args.self.now.copies q)) (find-whole c.args.words.now _ c.entries-home-items.ensures c.loop-home.home-index q (omega arith))

pub returns-clause-frees : goal.returns-clause-frees
returns-clause-frees c q =
    c.loop-home.invariant.frees q
    ∙ ap (λ w. later is_freed w (contains nat_cmp c.args.self.now.frees q)) (find-whole c.args.words.now _ c.entries-home-items.ensures c.loop-home.home-index q (omega arith))

pub returns-in_err-put-clause-grows : goal.returns-in_err-put-clause-grows
returns-in_err-put-clause-grows c = on-refusal c.from_residual.result (omega (arith, ap length c.entries-home-items.ensures, map.len-entries c.args.words.now))
