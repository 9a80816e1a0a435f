-- The cuts of three handles, by what their groups cost.
use Rattle.std.proofs.Common.{◌≡◌, ℕ, zero, suc, ◌+◌, ◌<◌, ◌≤◌, List, [], ◌∷◌, length, Option, Some, refl, sym, ap, ◌∙◌, arith}
use Rattle.std.proofs.lemmas.Option.{none-some, same_Some}
use Rattle.jb_cost.specs.Cut.{FitsCut, IsLeastCut, IsReached, ArePrices, Hold, IsFirstToAttain, EachPiece, price, total}
use Rattle.jb_cost.specs.declared.geometry.Geometry.{Geometry}
use Rattle.jb_cost.specs.Cost.{blocks_of}
use Rattle.jb_cost.specs.Cut.{piece_cost}
use Rattle.jb_plan.specs.Costs.{cost_in, geometry_of}
use Rattle.proof_clients.specs.Examples.{three, six, four, best, prices, four_prices}
use Rattle.proof_clients.proofs.ExampleCosts.{cost-wrote}
use Rattle.jb_cost.proofs.PriceBounds.{hold-fewer, price-exact}

-- what holds of the first four numbers holds of each up to three
pub four-starts : (P : ℕ → Type 0) → P 0 → P 1 → P 2 → P 3 → (i : ℕ) → i ≤ 3 → P i
four-starts P p0 p1 p2 p3 zero most = p0
four-starts P p0 p1 p2 p3 (suc zero) most = p1
four-starts P p0 p1 p2 p3 (suc (suc zero)) most = p2
four-starts P p0 p1 p2 p3 (suc (suc (suc zero))) most = p3
four-starts P p0 p1 p2 p3 (suc (suc (suc (suc i)))) most = absurd (omega arith)

-- what holds of the six groups of three handles holds of each
six-ends : (P : ℕ → ℕ → Type 0) → P 0 1 → P 1 2 → P 2 3 → P 0 2 → P 1 3 → P 0 3 → (i j : ℕ) → i < j → j ≤ 3 → P i j
six-ends P p01 p12 p23 p02 p13 p03 i j less most =
    four-starts (λ j. i < j → P i j)
    (λ less. absurd (omega arith))
    (λ less. four-starts (λ i. i < 1 → P i 1) (λ _. p01) (λ h. absurd (omega arith)) (λ h. absurd (omega arith)) (λ h. absurd (omega arith)) i (omega arith) less)
    (λ less. four-starts (λ i. i < 2 → P i 2) (λ _. p02) (λ _. p12) (λ h. absurd (omega arith)) (λ h. absurd (omega arith)) i (omega arith) less)
    (λ less. four-starts (λ i. i < 3 → P i 3) (λ _. p03) (λ _. p13) (λ _. p23) (λ h. absurd (omega arith)) i (omega arith) less)
    j most less

-- what the groups of three handles cost
pub record Costs (c : ℕ → ℕ → ℕ) : Type 0 where
  pub first : c 0 1 ≡ 4
  pub second : c 1 2 ≡ 4
  pub third : c 2 3 ≡ 5
  pub early : c 0 2 ≡ 6
  pub late : c 1 3 ≡ 5
  pub whole : c 0 3 ≡ 7

module _ (c : ℕ → ℕ → ℕ) (limit : ℕ) (ps : List (Option ℕ)) where
  -- the piece does not undercut the price of its end
  abbrev Step : ℕ → ℕ → Type 0
  Step i j = (p : ℕ) → price ps i ≡ Some p → c i j ≤ limit → (q : ℕ) × (price ps j ≡ Some q) × (q ≤ p + c i j)

  within : (i j p q : ℕ) → price ps i ≡ Some p → price ps j ≡ Some q → q ≤ p + c i j → Step i j
  within i j p q from to less r is fits = (q, to, let same : p ≡ r = same_Some p r (sym from ∙ is) in omega (arith, same, less))

  over : (i j : ℕ) → limit < c i j → Step i j
  over i j more r is fits = absurd (omega (arith, more, fits))

  -- the price of so many handles is the total of some cut
  abbrev Reached : ℕ → Type 0
  Reached n = (p : ℕ) → price ps n ≡ Some p → IsReached c limit n p

  reached : (n : ℕ) (bounds : List ℕ) (p : ℕ) → FitsCut c limit n bounds → total c bounds ≡ p → price ps n ≡ Some p → Reached n
  reached n bounds p fitting sum is q also = (bounds, fitting, sum ∙ same_Some p q (sym is ∙ also))

  -- prices of three handles that hold, and that cuts reach
  prices-of : length ps ≡ 4 → Hold c limit 3 ps → Reached 0 → Reached 1 → Reached 2 → Reached 3 → ArePrices c limit 3 ps
  prices-of number hold r0 r1 r2 r3 = record {
    number = number;
    each = λ i most. price-exact c limit i ps (hold-fewer c limit 3 i ps hold most) (four-starts Reached r0 r1 r2 r3 i most);
  }

pub costs-of : (g : Geometry) → blocks_of g 2 0 ≡ 4 → blocks_of g 3 0 ≡ 5 → blocks_of g 4 0 ≡ 6 → blocks_of g 5 0 ≡ 7 → Costs (piece_cost g three)
costs-of g two more four five = record {
  first = cost-wrote [] g 0 ((1 ∷ 2 ∷ []) ∷ []) (tt, tt) ∙ two;
  second = cost-wrote [] g 1 ((3 ∷ 4 ∷ []) ∷ []) (tt, tt) ∙ two;
  third = cost-wrote [] g 2 ((3 ∷ 4 ∷ 5 ∷ []) ∷ []) (tt, tt) ∙ more;
  early = cost-wrote [] g 0 ((1 ∷ 2 ∷ []) ∷ (3 ∷ 4 ∷ []) ∷ []) (tt, (tt, tt)) ∙ four;
  late = cost-wrote [] g 1 ((3 ∷ 4 ∷ []) ∷ (3 ∷ 4 ∷ 5 ∷ []) ∷ []) (tt, (tt, tt)) ∙ more;
  whole = cost-wrote [] g 0 ((1 ∷ 2 ∷ []) ∷ (3 ∷ 4 ∷ []) ∷ (3 ∷ 4 ∷ 5 ∷ []) ∷ []) (tt, (tt, (tt, tt))) ∙ five;
}

pub costs-six : Costs (cost_in six three)
costs-six = costs-of (geometry_of six) refl refl refl refl

pub costs-four : Costs (cost_in four three)
costs-four = costs-of (geometry_of four) refl refl refl refl

module _ (c : ℕ → ℕ → ℕ) (costs : Costs c) where
  pub hold : Hold c 6 3 prices
  hold = record {
    start = refl;
    step = λ i j p less most. six-ends (Step c 6 prices)
        (within c 6 prices 0 1 0 4 refl refl (omega (arith, costs.first)))
        (within c 6 prices 1 2 4 6 refl refl (omega (arith, costs.second)))
        (within c 6 prices 2 3 6 9 refl refl (omega (arith, costs.third)))
        (within c 6 prices 0 2 0 6 refl refl (omega (arith, costs.early)))
        (within c 6 prices 1 3 4 9 refl refl (omega (arith, costs.late)))
        (over c 6 prices 0 3 (omega (arith, costs.whole)))
        i j less most p;
  }

  -- with four blocks for a group
  pub hold-four : Hold c 4 3 four_prices
  hold-four = record {
    start = refl;
    step = λ i j p less most. six-ends (Step c 4 four_prices)
        (within c 4 four_prices 0 1 0 4 refl refl (omega (arith, costs.first)))
        (within c 4 four_prices 1 2 4 8 refl refl (omega (arith, costs.second)))
        (over c 4 four_prices 2 3 (omega (arith, costs.third)))
        (over c 4 four_prices 0 2 (omega (arith, costs.early)))
        (over c 4 four_prices 1 3 (omega (arith, costs.late)))
        (over c 4 four_prices 0 3 (omega (arith, costs.whole)))
        i j less most p;
  }

  pub fits-best : FitsCut c 6 3 best
  fits-best = record { cut = (refl, (omega arith, (omega arith, refl))); fits = (omega (arith, costs.first), (omega (arith, costs.late), tt)) }

  pub are-prices : ArePrices c 6 3 prices
  are-prices =
      prices-of c 6 prices refl hold
      (reached c 6 prices 0 (0 ∷ []) 0 (record { cut = (refl, refl); fits = tt }) refl refl)
      (reached c 6 prices 1 (0 ∷ 1 ∷ []) 4 (record { cut = (refl, (omega arith, refl)); fits = (omega (arith, costs.first), tt) }) (omega (arith, costs.first)) refl)
      (reached c 6 prices 2 (0 ∷ 2 ∷ []) 6 (record { cut = (refl, (omega arith, refl)); fits = (omega (arith, costs.early), tt) }) (omega (arith, costs.early)) refl)
      (reached c 6 prices 3 best 9 fits-best (omega (arith, costs.first, costs.late)) refl)

  pub are-four-prices : ArePrices c 4 3 four_prices
  are-four-prices =
      prices-of c 4 four_prices refl hold-four
      (reached c 4 four_prices 0 (0 ∷ []) 0 (record { cut = (refl, refl); fits = tt }) refl refl)
      (reached c 4 four_prices 1 (0 ∷ 1 ∷ []) 4 (record { cut = (refl, (omega arith, refl)); fits = (omega (arith, costs.first), tt) }) (omega (arith, costs.first)) refl)
      (reached c 4 four_prices 2 (0 ∷ 1 ∷ 2 ∷ []) 8 (record { cut = (refl, (omega arith, (omega arith, refl))); fits = (omega (arith, costs.first), (omega (arith, costs.second), tt)) }) (omega (arith, costs.first, costs.second)) refl)
      (λ p is. absurd (none-some p is))

  pub none-fits : (other : List ℕ) → FitsCut c 4 3 other → ⊥
  none-fits = are-four-prices.each 3 (omega arith)

  pub is-best : IsLeastCut c 6 3 best
  is-best = record {
    fitting = fits-best;
    least = λ other fitting. let low = (are-prices.each 3 (omega arith)).1 other fitting in omega (arith, costs.first, costs.late, low);
  }

  -- each bound of the best cut comes after the least one that may
  pub first : EachPiece (IsFirstToAttain c 6 prices) best
  first = (
    (record { before = omega arith; fits = omega (arith, costs.first); sum = (0, refl, ap Some (let same : 4 ≡ 0 + c 0 1 = omega (arith, costs.first) in same)) }, λ k less. absurd (omega arith)),
    (
      (
        record { before = omega arith; fits = omega (arith, costs.late); sum = (4, refl, ap Some (let same : 9 ≡ 4 + c 1 3 = omega (arith, costs.late) in same)) },
        λ k less attains.
            let here : k ≡ 0 = omega arith in
            omega (arith, rw here at attains.fits, costs.whole),
      ),
      tt,
    ),
  )
