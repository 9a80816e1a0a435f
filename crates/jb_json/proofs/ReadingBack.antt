-- The object of a report reads back.
use Rattle.std.proofs.Common.{◌≡◌, ℕ, ◌≤◌, max, List, [], ◌∷◌, Option, None, Some, refl, ap, arith}
use Rattle.json.specs.Print.{IsNumber}
use Rattle.json.specs.Tree.{depth, HasNumbers, items_depth, ItemsHaveNumbers, members_depth, MembersHaveNumbers}
use Rattle.json.proofs.Printed.Decimals.{IsNumber-decimal}
use Rattle.json.proofs.Printed.Trees.{document-print}
use Rattle.jb_json.specs.Facts.{Fact, Counted, Bare, Worded, Named, Marked, Chosen, Listed, Sparse}
use Rattle.jb_json.specs.Laws.{AreWordSized, AreWordsOrNone, HasFieldNumbers, HaveFieldNumbers, ObjectsReadBack}
use Rattle.jb_json.specs.Objects.{fact_value, items_of, members_of, object_of, sparse_items}

items-numbers : (ns : List ℕ) → AreWordSized ns → ItemsHaveNumbers (items_of ns)
items-numbers [] sized = tt
items-numbers (n ∷ ns) sized = (IsNumber-decimal n sized.0, items-numbers ns sized.1)

sparse-numbers : (ns : List (Option ℕ)) → AreWordsOrNone ns → ItemsHaveNumbers (sparse_items ns)
sparse-numbers [] sized = tt
sparse-numbers (None ∷ ns) sized = (tt, sparse-numbers ns sized.1)
sparse-numbers (Some n ∷ ns) sized = (IsNumber-decimal n sized.0, sparse-numbers ns sized.1)

value-numbers : (fact : Fact) → HasFieldNumbers fact → HasNumbers (fact_value fact)
value-numbers (Counted name n) sized = IsNumber-decimal n sized
value-numbers (Bare name n) sized = IsNumber-decimal n sized
value-numbers (Worded name word) sized = tt
value-numbers (Named name None) sized = tt
value-numbers (Named name (Some word)) sized = tt
value-numbers (Marked name holds) sized = tt
value-numbers (Chosen name holds word other) sized = tt
value-numbers (Listed name each numbers) sized = items-numbers numbers sized
value-numbers (Sparse name numbers) sized = sparse-numbers numbers sized

members-numbers : (facts : List Fact) → HaveFieldNumbers facts → MembersHaveNumbers (members_of facts)
members-numbers [] sized = tt
members-numbers (fact ∷ facts) sized = (value-numbers fact sized.0, members-numbers facts sized.1)

items-flat : (ns : List ℕ) → items_depth (items_of ns) ≡ 0
items-flat [] = refl
items-flat (n ∷ ns) = ap (max 0) (items-flat ns)

sparse-flat : (ns : List (Option ℕ)) → items_depth (sparse_items ns) ≡ 0
sparse-flat [] = refl
sparse-flat (None ∷ ns) = ap (max 0) (sparse-flat ns)
sparse-flat (Some n ∷ ns) = ap (max 0) (sparse-flat ns)

value-flat : (fact : Fact) → depth (fact_value fact) ≤ 1
value-flat (Counted name n) = omega arith
value-flat (Bare name n) = omega arith
value-flat (Worded name word) = omega arith
value-flat (Named name None) = omega arith
value-flat (Named name (Some word)) = omega arith
value-flat (Marked name holds) = omega arith
value-flat (Chosen name holds word other) = omega arith
value-flat (Listed name each numbers) = omega (arith, items-flat numbers)
value-flat (Sparse name numbers) = omega (arith, sparse-flat numbers)

members-flat : (facts : List Fact) → members_depth (members_of facts) ≤ 1
members-flat [] = omega arith
members-flat (fact ∷ facts) = omega (arith, value-flat fact, members-flat facts)

pub objects-read-back : ObjectsReadBack
objects-read-back facts sized =
    document-print (object_of facts) (members-numbers facts sized) (omega (arith, members-flat facts))
