use Rattle.std.proofs.Common.{T, sym, ap, ◌∙◌, arith, nat_cmp}
use Rattle.std.specs.Option.{option_or}
use Rattle.std.specs.FinMap as map
use Rattle.jb_block.proofs.Refusals.{on-refusal}
use Rattle.jb_handle.specs.Word.{WordMap}
use Rattle.jb_handle.proofs.GatherWords.{word-added, words-partly, some-entry}
use Rattle.jb_handle.proofs.Options.{or-nothing}
use Rattle.jb_handle.proofs.RisingHomes.{find-whole}
use Rattle.jb_handle.proofs.words_builder.WordsBuilder.add_all.Goals as goal

pub loop-home-init : goal.loop-home-init
loop-home-init c q = sym (or-nothing (map.get c.args.self.now q))

pub loop-home-preserved : goal.loop-home-preserved
loop-home-preserved c =
    let rising : T (map.is_sorted nat_cmp c.entries-home-items.result.now) = rw c.entries-home-items.ensures (map.entries_sorted c.args.words.now) in
    λ q. word-added _ rising c.loop-home.home-index c.loop-home-item.result c.loop-home-item.is (omega arith) c.loop-home.self _ q _ (c.in_ok-add.ensures.ok q) (c.loop-home.invariant q)

pub returns-clause-ok : goal.returns-clause-ok
returns-clause-ok c q =
    c.loop-home.invariant q
    ∙ ap (option_or (map.get c.args.self.now q)) (find-whole c.args.words.now c.entries-home-items.result.now c.entries-home-items.ensures c.loop-home.home-index q (omega arith))

pub returns-in_err-add-clause-err : goal.returns-in_err-add-clause-err
returns-in_err-add-clause-err c = on-refusal c.from_residual.result (some-entry c.args.words.now _ c.entries-home-items.ensures c.loop-home.home-index c.loop-home-test.true)

pub returns-in_err-add-clause-partly : goal.returns-in_err-add-clause-partly
returns-in_err-add-clause-partly c =
    on-refusal c.from_residual.result
    (λ q. words-partly c.args.words.now _ c.entries-home-items.ensures c.loop-home.home-index q _ _ (ap (λ (m : WordMap). map.get m q) c.in_err-add.ensures.err ∙ c.loop-home.invariant q))
