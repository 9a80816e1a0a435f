-- Prices that no piece undercuts bound every cut that fits from below.
use Rattle.std.proofs.Common.{◌≡◌, ℕ, ◌+◌, ◌≤◌, List, [], ◌∷◌, Option, Some, None, sym, subst, ap, ◌∙◌, refl, arith}
use Rattle.jb_cost.specs.Cut.{RisesTo, EachFrom, total_from, total, price, FitsCut, IsReached, IsPrice, ArePrices, Hold}
use Rattle.std.proofs.lemmas.Option.{none-some, same_Some}
use Rattle.jb_cost.proofs.Cuts.{rises-le, reached-push, reached-none}

-- prices of more handles hold of fewer
pub hold-fewer : (c : ℕ → ℕ → ℕ) (limit n m : ℕ) (ps : List (Option ℕ)) → Hold c limit n ps → m ≤ n → Hold c limit m ps
hold-fewer c limit n m ps hold less =
    record {
      start = hold.start;
      step = λ i j p before within is fits. hold.step i j p before (omega arith) is fits;
    }

-- the price at an end, at most what a walk to it costs
abbrev pub AtMost : List (Option ℕ) → ℕ → ℕ → Type 0
AtMost ps n most = (q : ℕ) × (price ps n ≡ Some q) × (q ≤ most)

lower-from : (c : ℕ → ℕ → ℕ) (limit n : ℕ) (ps : List (Option ℕ)) → Hold c limit n ps → (a p : ℕ) (bs : List ℕ) → price ps a ≡ Some p → RisesTo n a bs → EachFrom (λ i j. c i j ≤ limit) a bs → AtMost ps n (p + total_from c a bs)
lower-from c limit n ps hold a p [] is same fits = (p, ap (price ps) (sym same) ∙ is, omega arith)
lower-from c limit n ps hold a p (b ∷ bs) is rises fits =
    let next = hold.step a b p rises.0 (rises-le n b bs rises.1) is fits.0 in
    let rest = lower-from c limit n ps hold b next.0 bs next.1 rises.1 fits.1 in
    (rest.0, rest.1, omega (arith, next.2, rest.2))

-- each cut that fits costs at least the price of its end, which is a number
pub lower : (c : ℕ → ℕ → ℕ) (limit n : ℕ) (ps : List (Option ℕ)) → Hold c limit n ps → (other : List ℕ) → FitsCut c limit n other → AtMost ps n (total c other)
lower c limit n ps hold [] fitting = absurd fitting.cut
lower c limit n ps hold (a ∷ bs) fitting =
    let low = lower-from c limit n ps hold a 0 bs (ap (price ps) fitting.cut.0 ∙ hold.start) fitting.cut.1 fitting.fits in
    (low.0, low.1, omega (arith, low.2))

-- a price that holds and that a cut reaches is the least total
pub price-exact : (c : ℕ → ℕ → ℕ) (limit n : ℕ) (ps : List (Option ℕ)) → Hold c limit n ps → ((p : ℕ) → price ps n ≡ Some p → IsReached c limit n p) → IsPrice c limit n (price ps n)
price-exact c limit n ps hold reached = at (price ps n) refl
  where
    at : (found : Option ℕ) → price ps n ≡ found → IsPrice c limit n found
    at None is = λ other fitting. let low = lower c limit n ps hold other fitting in none-some low.0 (sym is ∙ low.1)
    at (Some p) is = (reached p is, λ other fitting. let low = lower c limit n ps hold other fitting in omega (arith, same_Some p low.0 (sym is ∙ low.1), low.2))

-- a least total is at most what a cut takes
at-most : (c : ℕ → ℕ → ℕ) (limit n t : ℕ) (found : Option ℕ) → IsReached c limit n t → IsPrice c limit n found → (q : ℕ) × (found ≡ Some q) × (q ≤ t)
at-most c limit n t None (bounds, fitting, sum) exact = absurd (exact bounds fitting)
at-most c limit n t (Some q) (bounds, fitting, sum) exact = let low : q ≤ total c bounds = exact.1 bounds fitting in (q, refl, omega (arith, sum))

-- least totals hold as prices
pub exact-hold : (c : ℕ → ℕ → ℕ) (limit n : ℕ) (ps : List (Option ℕ)) → ArePrices c limit n ps → Hold c limit n ps
exact-hold c limit n ps are = record {
  start = let least = at-most c limit 0 0 (price ps 0) (reached-none c limit) (are.each 0 (omega arith)) in least.1 ∙ ap Some (let none : least.0 ≡ 0 = omega (arith, least.2) in none);
  step = λ i j p before within is fits.
      let from = subst (IsPrice c limit i) is (are.each i (omega arith)) in
      at-most c limit j (p + c i j) (price ps j) (reached-push c limit i j p from.0 before fits) (are.each j within);
}
