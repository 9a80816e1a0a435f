-- Cuts of a list of handles into groups, the cuts with the least total, and the prices that show it. Here `c i j` is
-- what the handles from i up to, but without, j cost as one group, and `limit` is the most that a group may cost.
use Rattle.std.specs.Prelude.{◌≡◌, ℕ, ◌+◌, ◌<◌, ◌≤◌, List, [], ◌∷◌, length, Option, Some, None, slice_index_or}
use Rattle.std.specs.Prelude.{slice_range}
use Rattle.jb_handle.specs.declared.stopped.Stopped.{Stopped}
use Rattle.jb_cost.specs.declared.geometry.Geometry.{Geometry}
use Rattle.jb_cost.specs.Cost.{cost}

-- the bounds rise from a up to n
abbrev pub RisesTo : ℕ → ℕ → List ℕ → Type 0
RisesTo n a [] = a ≡ n
RisesTo n a (b ∷ bs) = (a < b) × RisesTo n b bs

-- P holds of the two ends of each piece, from a on
abbrev pub EachFrom : (ℕ → ℕ → Type 0) → ℕ → List ℕ → Type 0
EachFrom P a [] = Unit {0}
EachFrom P a (b ∷ bs) = P a b × EachFrom P b bs

-- what the pieces from a on cost, added up
abbrev pub total_from : (ℕ → ℕ → ℕ) → ℕ → List ℕ → ℕ
total_from c a [] = 0
total_from c a (b ∷ bs) = c a b + total_from c b bs

-- a cut of n handles: bounds that rise from 0 to n, for no handles 0 alone
abbrev pub IsCut : ℕ → List ℕ → Type 0
IsCut n [] = ⊥
IsCut n (a ∷ bs) = (a ≡ 0) × RisesTo n a bs

-- P holds of the two ends of each piece
abbrev pub EachPiece : (ℕ → ℕ → Type 0) → List ℕ → Type 0
EachPiece P [] = Unit {0}
EachPiece P (a ∷ bs) = EachFrom P a bs

-- what the pieces cost, added up
abbrev pub total : (ℕ → ℕ → ℕ) → List ℕ → ℕ
total c [] = 0
total c (a ∷ bs) = total_from c a bs

-- what the handles from i up to, but without, j cost as one group
abbrev pub piece_cost : Geometry → List Stopped → ℕ → ℕ → ℕ
piece_cost g hs i j = cost g (slice_range hs i j)

-- the price that a list of prices has for the first i handles
abbrev pub price : List (Option ℕ) → ℕ → Option ℕ
price ps i = slice_index_or ps i None

module _ (c : ℕ → ℕ → ℕ) (limit : ℕ) where
  -- a cut of n handles whose pieces are within the limit
  pub record FitsCut (n : ℕ) (bounds : List ℕ) : Type 0 where
    pub cut : IsCut n bounds
    pub fits : EachPiece (λ i j. c i j ≤ limit) bounds

  -- no cut that fits has a smaller total
  pub record IsLeastCut (n : ℕ) (bounds : List ℕ) : Type 0 where
    pub fitting : FitsCut n bounds
    pub least : (other : List ℕ) → FitsCut n other → total c bounds ≤ total c other

  -- some cut of n handles that fits has the total p
  abbrev pub IsReached : ℕ → ℕ → Type 0
  IsReached n p = (bounds : List ℕ) × FitsCut n bounds × (total c bounds ≡ p)

  -- the least total over the cuts of n handles that fit, or none
  abbrev pub IsPrice : ℕ → Option ℕ → Type 0
  IsPrice n None = (other : List ℕ) → FitsCut n other → ⊥
  IsPrice n (Some p) = IsReached n p × ((other : List ℕ) → FitsCut n other → p ≤ total c other)

  -- a price for each number of handles up to n, each the least total
  pub record ArePrices (n : ℕ) (ps : List (Option ℕ)) : Type 0 where
    pub number : length ps ≡ n + 1
    pub each : (i : ℕ) → i ≤ n → IsPrice i (price ps i)

  -- prices that no piece undercuts: that of no handles is 0, and none within the limit leads to less than the price of
  -- its end
  pub record Hold (n : ℕ) (ps : List (Option ℕ)) : Type 0 where
    pub start : price ps 0 ≡ Some 0
    pub step : (i j p : ℕ) → i < j → j ≤ n → price ps i ≡ Some p → c i j ≤ limit
        → (q : ℕ) × (price ps j ≡ Some q) × (q ≤ p + c i j)

  -- i may come before j in a least cut: the piece between them fits, and the price of j is that of i and the piece's
  -- cost
  pub record Attains (ps : List (Option ℕ)) (i j : ℕ) : Type 0 where
    pub before : i < j
    pub fits : c i j ≤ limit
    pub sum : (p : ℕ) × (price ps i ≡ Some p) × (price ps j ≡ Some (p + c i j))

  -- i is the least bound that may come before j
  abbrev pub IsFirstToAttain : List (Option ℕ) → ℕ → ℕ → Type 0
  IsFirstToAttain ps i j = Attains ps i j × ((k : ℕ) → k < i → Attains ps k j → ⊥)
