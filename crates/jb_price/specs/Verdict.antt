-- What each verdict says of a certificate: the first of six faults that it has, or that it has none.
-- Here `c i j` is what the handles from i up to, but without, j cost as one group, and n is the number of handles.
use Rattle.std.specs.Prelude.{◌≡◌, ◌≢◌, ℕ, ◌+◌, ◌<◌, ◌≤◌, ◌⊎◌, List, [], ◌∷◌, Option, Some, None}
use Rattle.jb_cost.specs.Cut.{IsCut, total, price, FitsCut, IsLeastCut, ArePrices}
use Rattle.jb_price.specs.declared.certificate.CertAnswer.{CertAnswer}
use Rattle.jb_price.specs.declared.certificate.CertAnswer.TheVariants.{Cut, NoCut}
use Rattle.jb_price.specs.declared.verdict.Verdict.{Verdict}
use Rattle.jb_price.specs.declared.verdict.Verdict.TheVariants.{Accepted, Refused}
use Rattle.jb_price.specs.declared.verdict.Reason.TheVariants.{OpeningPrice, Undercut, NotACut, OverLimit, TotalDiffers}
use Rattle.jb_price.specs.declared.verdict.Reason.TheVariants.{EndPrice}

-- the price is none, or more than p
abbrev pub IsDearer : Option ℕ → ℕ → Type 0
IsDearer None p = Unit {0}
IsDearer (Some q) p = p < q

module _ (c : ℕ → ℕ → ℕ) (limit : ℕ) where
  -- of the pieces from a on, the first one over the limit is that from i to j
  abbrev pub FirstOverFrom : ℕ → List ℕ → ℕ → ℕ → Type 0
  FirstOverFrom a [] i j = ⊥
  FirstOverFrom a (b ∷ bs) i j = ((c a b ≤ limit) × FirstOverFrom b bs i j) ⊎ ((limit < c a b) × (a ≡ i) × (b ≡ j))

  -- of the pieces of a cut, the first one over the limit is that from i to j
  abbrev pub IsFirstOver : List ℕ → ℕ → ℕ → Type 0
  IsFirstOver [] i j = ⊥
  IsFirstOver (a ∷ bs) i j = FirstOverFrom a bs i j

module _ (c : ℕ → ℕ → ℕ) (limit n : ℕ) where
  -- the cut fits, the total is the sum of its pieces, and the last price is the total
  pub record CutHolds (last : Option ℕ) (bounds : List ℕ) (sum : ℕ) : Type 0 where
    pub fitting : FitsCut c limit n bounds
    pub sums : total c bounds ≡ sum
    pub end_price : last ≡ Some sum

  -- what a verdict says of a claimed cut, where the prices hold
  abbrev pub CutSays : Option ℕ → List ℕ → ℕ → Verdict → Type 0
  CutSays last bounds sum Accepted = CutHolds last bounds sum
  CutSays last bounds sum (Refused OpeningPrice) = ⊥
  CutSays last bounds sum (Refused (Undercut i j)) = ⊥
  CutSays last bounds sum (Refused NotACut) = IsCut n bounds → ⊥
  CutSays last bounds sum (Refused (OverLimit i j)) = IsCut n bounds × IsFirstOver c limit bounds i j
  CutSays last bounds sum (Refused TotalDiffers) = FitsCut c limit n bounds × (total c bounds ≢ sum)
  CutSays last bounds sum (Refused EndPrice) = FitsCut c limit n bounds × (total c bounds ≡ sum) × (last ≢ Some sum)

module _ (c : ℕ → ℕ → ℕ) (limit n : ℕ) (ps : List (Option ℕ)) where
  -- the handles from i up to j fit one group, and with it j costs less than its price
  pub record Undercuts (i j : ℕ) : Type 0 where
    pub before : i < j
    pub within : j ≤ n
    pub fits : c i j ≤ limit
    pub cheaper : (p : ℕ) × (price ps i ≡ Some p) × IsDearer (price ps j) (p + c i j)

  -- no undercut has a lesser i, and none with this i a lesser j
  pub record IsFirstUndercut (i j : ℕ) : Type 0 where
    pub undercuts : Undercuts i j
    pub no_start : (a b : ℕ) → a < i → Undercuts a b → ⊥
    pub no_end : (b : ℕ) → b < j → Undercuts i b → ⊥

  -- no handles cost 0, and there is no undercut
  pub record PricesHold : Type 0 where
    pub opening : price ps 0 ≡ Some 0
    pub no_undercut : (i j : ℕ) → Undercuts i j → ⊥

  -- what a verdict says where no cut is claimed and the prices hold
  abbrev pub NoneSays : Verdict → Type 0
  NoneSays Accepted = price ps n ≡ None
  NoneSays (Refused OpeningPrice) = ⊥
  NoneSays (Refused (Undercut i j)) = ⊥
  NoneSays (Refused NotACut) = ⊥
  NoneSays (Refused (OverLimit i j)) = ⊥
  NoneSays (Refused TotalDiffers) = ⊥
  NoneSays (Refused EndPrice) = price ps n ≢ None

  -- what a verdict says of the answer, where the prices hold
  abbrev pub AnswerSays : CertAnswer → Verdict → Type 0
  AnswerSays (Cut bounds sum) verdict = CutSays c limit n (price ps n) bounds.items sum verdict
  AnswerSays NoCut verdict = NoneSays verdict

  -- what a verdict says of a certificate with these prices
  abbrev pub Says : CertAnswer → Verdict → Type 0
  Says answer Accepted = PricesHold × AnswerSays answer Accepted
  Says answer (Refused OpeningPrice) = price ps 0 ≢ Some 0
  Says answer (Refused (Undercut i j)) = (price ps 0 ≡ Some 0) × IsFirstUndercut i j
  Says answer (Refused NotACut) = PricesHold × AnswerSays answer (Refused NotACut)
  Says answer (Refused (OverLimit i j)) = PricesHold × AnswerSays answer (Refused (OverLimit i j))
  Says answer (Refused TotalDiffers) = PricesHold × AnswerSays answer (Refused TotalDiffers)
  Says answer (Refused EndPrice) = PricesHold × AnswerSays answer (Refused EndPrice)

module _ (c : ℕ → ℕ → ℕ) (limit n : ℕ) where
  -- the answer is right: no cut that fits beats the claimed one, whose total is as claimed; or no cut fits
  abbrev pub IsRight : CertAnswer → Type 0
  IsRight (Cut bounds sum) = IsLeastCut c limit n bounds.items × (total c bounds.items ≡ sum)
  IsRight NoCut = (other : List ℕ) → FitsCut c limit n other → ⊥

-- a right answer with prices that are least totals has none of the six faults, so no verdict but one fits it
abbrev pub PlannedIsAccepted : Type 0
PlannedIsAccepted =
    (c : ℕ → ℕ → ℕ) (limit n : ℕ) (ps : List (Option ℕ)) (answer : CertAnswer) → ArePrices c limit n ps
    → IsRight c limit n answer
    → Says c limit n ps answer Accepted × ((verdict : Verdict) → Says c limit n ps answer verdict → verdict ≡ Accepted)
