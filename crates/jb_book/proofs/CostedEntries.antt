-- The entries of a trail have what their handles cost, also once a batch follows.
use Rattle.std.proofs.Common.{◌≡◌, ℕ, ◌+◌, ◌≤◌, List, [], ◌∷◌, ◌++◌, All, length, take, sym, ap, ◌∙◌, arith, slice_range, length-append}
use Rattle.std.proofs.Math.Seq.{drop-append-add}
use Rattle.std.proofs.lemmas.Grind.{common_steps}
use Rattle.std.proofs.lemmas.List.Elements.{All-append, All-cons, All-nil, All-take, All-weaker}
use Rattle.jb_plan.specs.Costs.{cost_in, geometry_of}
use Rattle.jb_cost.specs.Cost.{cost}
use Rattle.jb_cost.specs.Cut.{IsCut, RisesTo}
use Rattle.jb_cost.proofs.Cuts.{rises-le}
use Rattle.jb_handle.specs.declared.shape.Shape.{Shape}
use Rattle.jb_handle.specs.declared.stopped.Stopped.{Stopped}
use Rattle.jb_deck.specs.GroupsOfBatch.{entries_for, entries_from}
use Rattle.jb_deck.specs.declared.done.Entry.{Entry}
use Rattle.jb_book.specs.Since.{IsCosted}

range-before : {A : Type 0} (xs ys : List A) (i j : ℕ) → i ≤ j → j ≤ length xs → slice_range (xs ++ ys) i j ≡ slice_range xs i j
range-before xs ys i j up within = grind (arith, common_steps)

range-after : {A : Type 0} (xs ys : List A) (i j : ℕ) → slice_range (xs ++ ys) (length xs + i) (length xs + j) ≡ slice_range ys i j
range-after xs ys i j = grind (arith, common_steps, drop-append-add xs ys i)

module _ (shape : Shape) (given hs : List Stopped) where
  costed-before : (e : Entry) → IsCosted shape given e → IsCosted shape (given ++ hs) e
  costed-before e is = record {
    some = is.some;
    within = (let both = length-append given hs in omega (arith, both));
    blocks = is.blocks ∙ ap (cost (geometry_of shape)) (sym (range-before given hs e.first e.past (omega arith) is.within));
  }

  costed-from : (number a : ℕ) (bs : List ℕ) → RisesTo (length hs) a bs → All (IsCosted shape (given ++ hs)) (entries_from (cost_in shape hs) (length given) number a bs)
  costed-from number a [] rises = All-nil (IsCosted shape (given ++ hs))
  costed-from number a (b ∷ bs) rises =
      All-cons (IsCosted shape (given ++ hs)) (record { first = length given + a; past = length given + b; number = number; blocks = cost_in shape hs a b })
      (entries_from (cost_in shape hs) (length given) (number + 1) b bs)
      (record {
        some = (omega arith);
        within = (let high = rises-le (length hs) b bs rises.1 in let both = length-append given hs in omega (arith, high, both));
        blocks = ap (cost (geometry_of shape)) (sym (range-after given hs a b));
      })
      (costed-from (number + 1) b bs rises.1)

  costed-for : (number : ℕ) (bounds : List ℕ) → IsCut (length hs) bounds → All (IsCosted shape (given ++ hs)) (entries_for (cost_in shape hs) (length given) number bounds)
  costed-for number [] cut = absurd cut
  costed-for number (a ∷ bs) cut = costed-from number a bs cut.1

  -- the entries before, and the first ones of a batch
  pub costed-more : (number k : ℕ) (bounds : List ℕ) (trail : List Entry) → IsCut (length hs) bounds → All (IsCosted shape given) trail
      → All (IsCosted shape (given ++ hs)) (trail ++ take k (entries_for (cost_in shape hs) (length given) number bounds))
  costed-more number k bounds trail cut all =
      All-append (IsCosted shape (given ++ hs)) trail (take k (entries_for (cost_in shape hs) (length given) number bounds))
      (All-weaker (IsCosted shape given) (IsCosted shape (given ++ hs)) costed-before trail all)
      (All-take (IsCosted shape (given ++ hs)) k (entries_for (cost_in shape hs) (length given) number bounds) (costed-for number bounds cut))
