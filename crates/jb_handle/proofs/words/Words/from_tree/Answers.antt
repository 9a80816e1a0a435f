use Rattle.std.proofs.Common.{◌≡◌, [], ap, rules, sym, ◌∙◌, nat_cmp}
use Rattle.std.specs.FinMap as map
use Rattle.std.proofs.lemmas.List.{nil_from_length}
use Rattle.jb_handle.proofs.RisingHomes.{view-empty, ordered-rise}
use Rattle.jb_handle.proofs.words.Words.from_tree.Goals as goal

pub invariant_of-result : goal.invariant_of-result
invariant_of-result c =
    let same : c.in_ok-entries.entries.items ≡ c.args.tree.entries = search rules in
    record {
      rising = rw same (ordered-rise _ c.into_iter.ensures.into_iter_gives.5);
      bytes = rw same c.requires.bytes;
    }

pub returns-clause-ok : goal.returns-clause-ok
returns-clause-ok c = map.entries-from_sorted nat_cmp c.in_ok-entries.entries.items (invariant_of-result c).rising ∙ (search rules)

pub returns-then-is_empty-clause-ok : goal.returns-then-is_empty-clause-ok
returns-then-is_empty-clause-ok c =
    let none : c.args.tree.entries ≡ [] = nil_from_length c.args.tree.entries (c.is_empty.ensures.0 c.if-is_empty.true) in
    ap map.entries c.new.ensures ∙ ap map.entries (sym view-empty) ∙ map.entries-from_sorted nat_cmp [] tt ∙ sym none
