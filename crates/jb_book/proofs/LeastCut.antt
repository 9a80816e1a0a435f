-- Handles that are each within the most credits have a cut, each handle alone; and a batch that has a cut has a least one.
use Rattle.std.proofs.Common.{◌-◌, false, drop, get_or, slice_range, All, ap, ◌≡◌, ◌⊎◌, inl, inr, ℕ, zero, suc, ◌+◌, ◌<◌, ◌≤◌, List, [], ◌∷◌, ◌++◌, length, Option, Some, None, refl, sym, subst, ◌∙◌, length-append, arith, eq-or-lt_of_le}
use Rattle.std.proofs.lemmas.Bool.{cases_lt}
use Rattle.jb_cost.specs.Cut.{price, EachFrom, FitsCut, IsLeastCut, IsPrice, RisesTo, piece_cost}
use Rattle.jb_plan.specs.Step.{LastGroup, BestFrom, AreSteps, price_of, from_of}
use Rattle.jb_plan.proofs.StepTable.{steps-start, steps-more, prices-steps}
use Rattle.jb_plan.specs.Batch.{Gathered}
use Rattle.jb_plan.specs.Costs.{cost_in, geometry_of, HasCut}
use Rattle.std.specs.FinMap as map
use Rattle.std.proofs.lemmas.List.Elements.{All-nil, All-cons, All-head, All-tail, All-drop}
use Rattle.jb_handle.specs.declared.shape.Shape.{Shape}
use Rattle.jb_handle.specs.declared.stopped.Stopped.{Stopped}
use Rattle.jb_cost.specs.declared.geometry.Geometry.{Geometry}
use Rattle.jb_cost.specs.Cost.{cost}
use Rattle.jb_cost.specs.Credits.{IsMost, Covers}
use Rattle.jb_cost.proofs.PieceCosts.{piece-left, piece-none}
use Rattle.jb_cost.proofs.WorstCosts.{worst-bound}
use Rattle.jb_book.specs.Account.{Account, IsAccountSound}
use Rattle.jb_book.specs.Calls.{IsCutOf}

-- what holds of a start and of all after it
from-low : (P : ℕ → Type 0) (low i : ℕ) → P low → (low + 1 ≤ i → P i) → low ≤ i → P i
from-low P low i here later above = elim (eq-or-lt_of_le above) [
  | inl same ↦ subst P same here
  | inr less ↦ later (omega (arith, less))
]

module _ (c : ℕ → ℕ → ℕ) (limit : ℕ) (ps : List (Option ℕ)) (end : ℕ) where
  -- where a start leads to the end, what is said of its price
  abbrev Costs : (ℕ → ℕ → Type 0) → ℕ → ℕ → Type 0
  Costs P p i = c i end ≤ limit → price ps i ≡ Some p → P p i

  -- one start more, which does not lead to the end
  pass : (low : ℕ) → ((p : ℕ) → c low end ≤ limit → price ps low ≡ Some p → ⊥) → (best : Option LastGroup) → BestFrom c limit ps (low + 1) end best → BestFrom c limit ps low end best
  pass low never None tried = λ i p above below. from-low (Costs (λ r k. ⊥) p) low i (never p) (λ later. tried i p later below) above
  pass low never (Some s) tried = record {
    leads = tried.leads;
    least = λ i p above below. from-low (Costs (λ r k. s.price ≤ r + c k end) p) low i (λ fits is. absurd (never p fits is)) (λ later. tried.least i p later below) above;
    first = λ i p above below. from-low (Costs (λ r k. s.price < r + c k end) p) low i (λ fits is. absurd (never p fits is)) (λ later. tried.first i p later below) above;
  }

  module _ (low q : ℕ) (before : low < end) (fits_in : c low end ≤ limit) (there : price ps low ≡ Some q) where
    -- it is the best one
    found : ((i p : ℕ) → low + 1 ≤ i → i < end → c i end ≤ limit → price ps i ≡ Some p → q + c low end ≤ p + c i end) → (best : Option LastGroup) × BestFrom c limit ps low end best
    found least = (
      Some (record { from = low; price = q + c low end }),
      record {
        leads = record { before = before; fits = fits_in; sum = (q, there, refl) };
        least = λ i p above below. from-low (Costs (λ r k. q + c low end ≤ r + c k end) p) low i (λ fits is. let same : p ≡ q = cc in omega (arith, same)) (λ later. least i p later below) above;
        first = λ i p above below fits is. absurd (omega (arith, above, below));
      },
    )

    -- or another one is
    one-more : (best : Option LastGroup) → BestFrom c limit ps (low + 1) end best → (best : Option LastGroup) × BestFrom c limit ps low end best
    one-more None tried = found (λ i p above below fits is. absurd (tried i p above below fits is))
    one-more (Some s) tried = elim (cases_lt s.price (q + c low end)) [
      | inl less ↦ (
        Some s,
        record {
          leads = tried.leads;
          least = λ i p above below. from-low (Costs (λ r k. s.price ≤ r + c k end) p) low i (λ fits is. let same : p ≡ q = cc in omega (arith, same, less)) (λ later. tried.least i p later below) above;
          first = λ i p above below. from-low (Costs (λ r k. s.price < r + c k end) p) low i (λ fits is. let same : p ≡ q = cc in omega (arith, same, less)) (λ later. tried.first i p later below) above;
        },
      )
      | inr more ↦ found (λ i p above below fits is. let rest = tried.least i p above below fits is in omega (arith, rest, more))
    ]

  -- the best start of k, from low on
  best-from : (k low : ℕ) → low + k ≡ end → (best : Option LastGroup) × BestFrom c limit ps low end best
  best-from zero low all = (None, λ i p above below fits is. omega (arith, all, above, below))
  best-from (suc k) low all = at (cases_lt limit (c low end)) (price ps low) refl (best-from k (low + 1) (omega (arith, all)))
    where
      at : (limit < c low end) ⊎ (c low end ≤ limit) → (found : Option ℕ) → price ps low ≡ found → (best : Option LastGroup) × BestFrom c limit ps (low + 1) end best → (best : Option LastGroup) × BestFrom c limit ps low end best
      at (inl more) found is rest = (rest.0, pass low (λ p fits there. omega (arith, more, fits)) rest.0 rest.1)
      at (inr fits) None is rest = (rest.0, pass low (λ p fit there. let both : None ≡ Some p = sym is ∙ there in (let h : ⊥ = cc in h)) rest.0 rest.1)
      at (inr fits) (Some q) is rest = one-more low q (omega (arith, all)) fits is rest.0 rest.1

module _ (c : ℕ → ℕ → ℕ) (limit : ℕ) where
  record Table (n : ℕ) : Type 0 where
    ps : List (Option ℕ)
    froms : List ℕ
    steps : AreSteps c limit ps froms n
    number : length ps ≡ n + 1
    starts : length froms ≡ n + 1

  table : (n : ℕ) → Table n
  table zero = record { ps = Some 0 ∷ []; froms = 0 ∷ []; steps = steps-start c limit; number = refl; starts = refl }
  table (suc n) =
      let t = table n in
      let same : n + 1 ≡ suc n = omega arith in
      let (best, is) = best-from c limit t.ps (n + 1) (n + 1) 0 (omega arith) in
      let longer = length-append t.ps (price_of best ∷ []) in
      let later = length-append t.froms (from_of best ∷ []) in
      subst Table same (record {
        ps = t.ps ++ (price_of best ∷ []);
        froms = t.froms ++ (from_of best ∷ []);
        steps = steps-more c limit t.ps t.froms n best t.steps t.number t.starts is;
        number = omega (arith, longer);
        starts = omega (arith, later);
      })

  least-cut : (n : ℕ) (other : List ℕ) → FitsCut c limit n other → (bounds : List ℕ) × IsLeastCut c limit n bounds
  least-cut n other fits =
      let t = table n in
      let prices = prices-steps c limit t.ps t.froms n t.steps t.number in
      at (price t.ps n) (prices.each n (omega arith))
    where
      at : (found : Option ℕ) → IsPrice c limit n found → (bounds : List ℕ) × IsLeastCut c limit n bounds
      at None none = absurd (none other fits)
      at (Some p) is = (is.0.0, record { fitting = is.0.1; least = λ more fitting. let low = is.1 more fitting in omega (arith, low) })

-- so a batch that has a cut has a least one
pub has_least : (b : Gathered) → HasCut b.shape b.handles → (cut : List ℕ) × IsCutOf b cut
has_least b (bounds, fits) = least-cut (cost_in b.shape b.handles) b.shape.limit (length b.handles) bounds fits

-- ---- each handle alone

-- the k bounds after a, one by one
abbrev singles : ℕ → ℕ → List ℕ
singles a zero = []
singles a (suc k) = (a + 1) ∷ singles (a + 1) k

rises-singles : (a k : ℕ) → RisesTo (a + k) a (singles a k)
rises-singles a zero = omega arith
rises-singles a (suc k) = (omega arith, subst (λ n. RisesTo n (a + 1) (singles (a + 1) k)) (let same : a + 1 + k ≡ a + suc k = omega arith in same) (rises-singles (a + 1) k))

each-single : (P : ℕ → ℕ → Type 0) (a k : ℕ) → ((i : ℕ) → a ≤ i → i < a + k → P i (i + 1)) → EachFrom P a (singles a k)
each-single P a zero each = tt
each-single P a (suc k) each = (each a (omega arith) (omega arith), each-single P (a + 1) k (λ i low high. each i (omega arith) (omega arith)))

covers-few : (most : ℕ) (cs : List ℕ) (hs : List Stopped) → Covers cs hs → All (λ c. c ≤ most) cs → All (λ h. map.len h.words ≤ most) hs
covers-few most [] [] covers few = All-nil (λ h. map.len h.words ≤ most)
covers-few most [] (h ∷ hs) covers few = absurd covers
covers-few most (c ∷ cs) [] covers few = absurd covers
covers-few most (c ∷ cs) (h ∷ hs) covers few =
    let here : c ≤ most = All-head (λ x. x ≤ most) c cs few in
    All-cons (λ g. map.len g.words ≤ most) h hs (omega arith) (covers-few most cs hs covers.1 (All-tail (λ x. x ≤ most) c cs few))

single-cost : (g : Geometry) (limit most : ℕ) → IsMost g limit most → (hs : List Stopped) → All (λ h. map.len h.words ≤ most) hs → (i : ℕ) → i < length hs → piece_cost g hs i (i + 1) ≤ limit
single-cost g limit most is hs few i there =
    let none : Stopped = record { ticket = 0; words = map.empty } in
    let alone : slice_range hs i (i + 1) ≡ get_or hs i none ∷ [] = piece-left hs none i (i + 1) (omega arith) there ∙ ap (λ xs. get_or hs i none ∷ xs) (piece-none hs (i + 1)) in
    let same : cost g (slice_range hs i (i + 1)) ≡ cost g (get_or hs i none ∷ []) = ap (cost g) alone in
    let worst = worst-bound g (get_or hs i none) most (few i none there) in
    omega (arith, same, worst)

pub has-cut : (shape : Shape) (most : ℕ) → IsMost (geometry_of shape) shape.limit most → (cs : List ℕ) (hs : List Stopped) → Covers cs hs → All (λ c. c ≤ most) cs → HasCut shape hs
has-cut shape most is cs hs covers few = (
  0 ∷ singles 0 (length hs),
  record {
    cut = (refl, subst (λ n. RisesTo n 0 (singles 0 (length hs))) (let same : 0 + length hs ≡ length hs = omega arith in same) (rises-singles 0 (length hs)));
    fits = each-single (λ i j. piece_cost (geometry_of shape) hs i j ≤ shape.limit) 0 (length hs)
        (λ i low high. single-cost (geometry_of shape) shape.limit most is hs (covers-few most cs hs covers few) i (omega arith));
  },
)

-- so the queue of a book has one
pub cut-of : (a : Account) → IsAccountSound a → a.aborted ≡ false → HasCut a.shape a.shadow.queue
cut-of a sound running =
    let line = sound.running running in
    has-cut a.shape a.most sound.most (drop (a.shadow.taken - a.shadow.settled) a.shadow.credits) a.shadow.queue line.covered (All-drop (λ c. c ≤ a.most) (a.shadow.taken - a.shadow.settled) a.shadow.credits sound.few)
