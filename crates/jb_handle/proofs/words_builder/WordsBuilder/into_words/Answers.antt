use Rattle.std.proofs.Common.{◌≡◌, OnErr, ◌<◌, length, ap, subst, sym, ◌∙◌, nat_cmp}
use Rattle.std.proofs.lemmas.Result.{IfOk-weaker}
use Rattle.std.specs.FinMap as map
use Rattle.jb_handle.proofs.words_builder.WordsBuilder.into_words.Goals as goal

pub from_tree-requires : goal.from_tree-requires
from_tree-requires c = record { bytes = c.self.invariant.bytes }

pub returns-clause-ok : goal.returns-clause-ok
returns-clause-ok c =
    IfOk-weaker c.from_tree.result _ _ (λ words same. map.same_entries_map _ _ (same ∙ sym (map.entries-from_sorted nat_cmp _ c.self.invariant.rising)) ∙ c.self.view_is) c.from_tree.ensures.ok

pub returns-clause-err : goal.returns-clause-err
returns-clause-err c =
    let size : length c.self.inside.tree.entries ≡ map.len c.args.self = ap length (sym (map.entries-from_sorted nat_cmp _ c.self.invariant.rising)) ∙ sym (map.len-entries _) ∙ ap map.len c.self.view_is in
    subst (λ n. OnErr c.from_tree.result (0 < n)) size c.from_tree.ensures.err
