-- The table of the best steps, as it grows, and what it says once it is whole.
use Rattle.std.proofs.Common.{◌≡◌, ℕ, zero, suc, ◌+◌, ◌<◌, ◌≤◌, List, [], ◌∷◌, ◌++◌, length, Option, Some, None, slice_index, inl, inr, sym, subst, ap, ◌∙◌, refl, arith, length-append, eq-or-lt_of_le, eq-zero-or-pos, ◌^◌}
use Rattle.std.proofs.Math.ListN.{get_or-append}
use Rattle.std.proofs.lemmas.List.{get_or_push}
use Rattle.std.proofs.lemmas.Option.{none-some, same_Some}
use Rattle.jb_cost.specs.Cut.{RisesTo, EachFrom, total_from, IsCut, EachPiece, total, price, FitsCut, IsLeastCut, IsReached, ArePrices, Hold, IsFirstToAttain}
use Rattle.jb_cost.proofs.Cuts.{rises-le, reached-push, reached-none, places-push}
use Rattle.jb_cost.proofs.PriceBounds.{hold-fewer, lower, price-exact}
use Rattle.jb_plan.specs.Step.{LastGroup, IsBest, BestFrom, step_of, AreSteps, price_of, from_of, AreBefore, AreWithin, IsTable, step_from, most_of}
use Rattle.jb_handle.specs.declared.stopped.Stopped.{Stopped}
use Rattle.jb_handle.specs.Size.{IsWithinSize}
use Rattle.jb_cost.specs.declared.group_start.GroupStart.{GroupStart}
use Rattle.jb_cost.specs.Starts.{IsBestStart, BestStart}
use Rattle.jb_cost.proofs.PieceCosts.{weight-take}

price-kept : (ps more : List (Option ℕ)) (i : ℕ) → i < length ps → price (ps ++ more) i ≡ price ps i
price-kept ps more i less = get_or-append ps more None i less

price-new : (ps : List (Option ℕ)) (n : ℕ) (x : Option ℕ) → length ps ≡ n → price (ps ++ (x ∷ [])) n ≡ x
price-new ps n x all = get_or_push ps x None n all

from-new : (froms : List ℕ) (n x : ℕ) → length froms ≡ n → slice_index (froms ++ (x ∷ [])) n ≡ x
from-new froms n x all = get_or_push froms x 0 n all

step-same : (froms starts : List ℕ) (j : ℕ) → slice_index froms j ≡ slice_index starts j → (p : Option ℕ) → step_of froms j p ≡ step_of starts j p
step-same froms starts j same None = refl
step-same froms starts j same (Some p) = ap (λ from. Some (record { from = from; price = p })) same

module _ (c : ℕ → ℕ → ℕ) (limit : ℕ) where
  -- the best step looks only at the prices before its end
  best-same : (ps qs : List (Option ℕ)) (low end : ℕ) (best : Option LastGroup) → ((i : ℕ) → i < end → price qs i ≡ price ps i) → BestFrom c limit ps low end best → BestFrom c limit qs low end best
  best-same ps qs low end None same tried = λ i p above below fits is. tried i p above below fits (sym (same i below) ∙ is)
  best-same ps qs low end (Some s) same tried = record {
    leads = record { before = tried.leads.before; fits = tried.leads.fits; sum = (tried.leads.sum.0, same s.from tried.leads.before ∙ tried.leads.sum.1, tried.leads.sum.2) };
    least = λ i p above below fits is. tried.least i p above below fits (sym (same i below) ∙ is);
    first = λ i p above below fits is. tried.first i p above below fits (let before : i < s.from = below in let less : s.from < end = tried.leads.before in sym (same i (omega arith)) ∙ is);
  }

  -- the entry of j in the table is the best step
  abbrev IsEntry : List (Option ℕ) → List ℕ → ℕ → Type 0
  IsEntry ps froms j = BestFrom c limit ps 0 j (step_of froms j (price ps j))

  -- the table of no handles
  pub steps-start : AreSteps c limit (Some 0 ∷ []) (0 ∷ []) 0
  steps-start = record { start = refl; each = λ j above within. absurd (let h : ⊥ = omega arith in h) }

  -- the table of one handle more
  pub steps-more : (ps : List (Option ℕ)) (froms : List ℕ) (n : ℕ) (best : Option LastGroup) → AreSteps c limit ps froms n → length ps ≡ n + 1 → length froms ≡ n + 1 → BestFrom c limit ps 0 (n + 1) best → AreSteps c limit (ps ++ (price_of best ∷ [])) (froms ++ (from_of best ∷ [])) (n + 1)
  steps-more ps froms n best steps prices starts found =
      record { start = price-kept ps (price_of best ∷ []) 0 (omega arith) ∙ steps.start; each = each }
    where
      now : (best : Option LastGroup) → BestFrom c limit ps 0 (n + 1) best → BestFrom c limit ps 0 (n + 1) (step_of (froms ++ (from_of best ∷ [])) (n + 1) (price_of best))
      now None found = found
      now (Some s) found = subst (λ from. IsBest c limit ps 0 (n + 1) (record { from = from; price = s.price })) (sym (from-new froms (n + 1) s.from starts)) found

      last : IsEntry (ps ++ (price_of best ∷ [])) (froms ++ (from_of best ∷ [])) (n + 1)
      last =
          rw (price-new ps (n + 1) (price_of best) prices)
          (best-same ps (ps ++ (price_of best ∷ [])) 0 (n + 1) (step_of (froms ++ (from_of best ∷ [])) (n + 1) (price_of best)) (λ i less. price-kept ps (price_of best ∷ []) i (omega arith)) (now best found))

      earlier : (j : ℕ) → 0 < j → j ≤ n → IsEntry (ps ++ (price_of best ∷ [])) (froms ++ (from_of best ∷ [])) j
      earlier j above within =
          rw (price-kept ps (price_of best ∷ []) j (omega arith), step-same (froms ++ (from_of best ∷ [])) froms j (get_or-append froms (from_of best ∷ []) 0 j (omega arith)) (price ps j))
          (best-same ps (ps ++ (price_of best ∷ [])) 0 j (step_of froms j (price ps j)) (λ i before. price-kept ps (price_of best ∷ []) i (omega arith)) (steps.each j above within))

      each : (j : ℕ) → 0 < j → j ≤ n + 1 → IsEntry (ps ++ (price_of best ∷ [])) (froms ++ (from_of best ∷ [])) j
      each j above within = elim (eq-or-lt_of_le within) [ inl same ↦ subst (IsEntry (ps ++ (price_of best ∷ [])) (froms ++ (from_of best ∷ []))) (sym same) last | inr less ↦ earlier j above (omega (arith, less)) ]

  -- what the table says of an end with a price
  best-at : (ps : List (Option ℕ)) (froms : List ℕ) (n j q : ℕ) → AreSteps c limit ps froms n → 0 < j → j ≤ n → price ps j ≡ Some q → IsBest c limit ps 0 j (record { from = slice_index froms j; price = q })
  best-at ps froms n j q steps above within is = subst (λ p. BestFrom c limit ps 0 j (step_of froms j p)) is (steps.each j above within)

  -- no piece undercuts the prices of the table
  hold-steps : (ps : List (Option ℕ)) (froms : List ℕ) (n : ℕ) → AreSteps c limit ps froms n → Hold c limit n ps
  hold-steps ps froms n steps = record { start = steps.start; step = λ i j p before within is fits. at i j p before is fits (price ps j) (steps.each j (omega arith) within) }
    where
      at : (i j p : ℕ) → i < j → price ps i ≡ Some p → c i j ≤ limit → (found : Option ℕ) → BestFrom c limit ps 0 j (step_of froms j found) → (q : ℕ) × (found ≡ Some q) × (q ≤ p + c i j)
      at i j p before is fits None best = absurd (best i p (omega arith) before fits is)
      at i j p before is fits (Some q) best = (q, refl, best.least i p (omega arith) before fits is)

  reached-below : (ps : List (Option ℕ)) (froms : List ℕ) (n : ℕ) → AreSteps c limit ps froms n → (m j p : ℕ) → j < m → j ≤ n → price ps j ≡ Some p → IsReached c limit j p
  reached-below ps froms n steps zero j p below within is = absurd (let h : ⊥ = omega arith in h)
  reached-below ps froms n steps (suc m) j p below within is = elim (eq-zero-or-pos j) [ inl none ↦ first none | inr above ↦ later (λ i q. reached-below ps froms n steps m i q) above ]
    where
      first : j ≡ 0 → IsReached c limit j p
      first none =
          rw (same_Some p 0 (sym is ∙ (ap (price ps) none ∙ steps.start)), none) (reached-none c limit)

      later : ((i q : ℕ) → i < m → i ≤ n → price ps i ≡ Some q → IsReached c limit i q) → 0 < j → IsReached c limit j p
      later reach above =
          let leads = (best-at ps froms n j p steps above within is).leads in
          let from = slice_index froms j in
          let before : from < j = leads.before in
          let reached = reach from leads.sum.0 (omega arith) (omega arith) leads.sum.1 in
          subst (IsReached c limit j) (sym leads.sum.2) (reached-push c limit from j leads.sum.0 reached before leads.fits)

  -- the prices of the table are least totals
  pub prices-steps : (ps : List (Option ℕ)) (froms : List ℕ) (n : ℕ) → AreSteps c limit ps froms n → length ps ≡ n + 1 → ArePrices c limit n ps
  prices-steps ps froms n steps number =
      record {
        number = number;
        each = λ i within. price-exact c limit i ps (hold-fewer c limit n i ps (hold-steps ps froms n steps) within)
            (λ p is. reached-below ps froms n steps (i + 1) i p (omega arith) within is);
      }

  -- what the table says of the cut that goes from a to n by its starts
  record Chain (ps : List (Option ℕ)) (sum a : ℕ) (bs : List ℕ) : Type 0 where
    p : ℕ
    is : price ps a ≡ Some p
    adds : p + total_from c a bs ≡ sum
    fits : EachFrom (λ i j. c i j ≤ limit) a bs
    firsts : EachFrom (IsFirstToAttain c limit ps) a bs

  chain : (ps : List (Option ℕ)) (froms : List ℕ) (n sum : ℕ) → AreSteps c limit ps froms n → price ps n ≡ Some sum → (a : ℕ) (bs : List ℕ) → RisesTo n a bs → EachFrom (λ i j. slice_index froms j ≡ i) a bs → Chain ps sum a bs
  chain ps froms n sum steps is a [] same back = record { p = sum; is = ap (price ps) same ∙ is; adds = omega arith; fits = tt; firsts = tt }
  chain ps froms n sum steps is a (b ∷ bs) rises back =
      let rest = chain ps froms n sum steps is b bs rises.1 back.1 in
      let within : b ≤ n = rises-le n b bs rises.1 in
      let best : IsBest c limit ps 0 b (record { from = a; price = rest.p }) = rw back.0 at (best-at ps froms n b rest.p steps (omega (arith, rises.0)) within rest.is) in
      record {
        p = best.leads.sum.0;
        is = best.leads.sum.1;
        adds = omega (arith, best.leads.sum.2, rest.adds);
        fits = (best.leads.fits, rest.fits);
        firsts = (
          (
            record { before = rises.0; fits = best.leads.fits; sum = (best.leads.sum.0, best.leads.sum.1, rest.is ∙ ap Some best.leads.sum.2) },
            λ k earlier attains.
                let more = best.first k attains.sum.0 (omega arith) earlier attains.fits attains.sum.1 in
                omega (arith, more, same_Some rest.p (attains.sum.0 + c k b) (sym rest.is ∙ attains.sum.2)),
          ),
          rest.firsts,
        );
      }

  -- the cut that goes back by the starts of the table is a least one, chosen as said
  pub answers-cut : (ps : List (Option ℕ)) (froms : List ℕ) (n sum : ℕ) (bounds : List ℕ) → AreSteps c limit ps froms n → price ps n ≡ Some sum → IsCut n bounds → EachPiece (λ i j. slice_index froms j ≡ i) bounds → IsLeastCut c limit n bounds × (total c bounds ≡ sum) × EachPiece (IsFirstToAttain c limit ps) bounds
  answers-cut ps froms n sum [] steps is cut back = absurd cut
  answers-cut ps froms n sum (a ∷ bs) steps is cut back =
      let whole = chain ps froms n sum steps is a bs cut.1 back in
      let none = same_Some whole.p 0 (sym whole.is ∙ (ap (price ps) cut.0 ∙ steps.start)) in
      let sums : total_from c a bs ≡ sum = omega (arith, whole.adds, none) in (
        record {
          fitting = record { cut = cut; fits = whole.fits };
          least = λ other fitting.
              let low = lower c limit n ps (hold-steps ps froms n steps) other fitting in
              omega (arith, sums, low.2, same_Some sum low.0 (sym is ∙ low.1));
        },
        sums,
        whole.firsts,
      )

  -- where the last price is none, no cut fits
  pub answers-none : (ps : List (Option ℕ)) (froms : List ℕ) (n : ℕ) → AreSteps c limit ps froms n → price ps n ≡ None → (other : List ℕ) → FitsCut c limit n other → ⊥
  answers-none ps froms n steps is other fitting = let low = lower c limit n ps (hold-steps ps froms n steps) other fitting in none-some low.0 (sym is ∙ low.1)

  -- the start of one step more is before its end
  back-more : (froms : List ℕ) (n : ℕ) (ps : List (Option ℕ)) (best : Option LastGroup) → AreBefore froms → length froms ≡ n + 1
      → BestFrom c limit ps 0 (n + 1) best → AreBefore (froms ++ (from_of best ∷ []))
  back-more froms n ps best back starts found j above within =
      places-push 0 (λ j from. 0 < j → from < j) froms (from_of best) (λ j below above. back j above below) (λ above. rw starts (now best found)) j (simp length-append at within) above
    where
      now : (best : Option LastGroup) → BestFrom c limit ps 0 (n + 1) best → from_of best < n + 1
      now None found = omega arith
      now (Some s) found = found.leads.before

  -- one price more is at most what the handles before it weigh
  within-more : (w : ℕ → ℕ) (ps : List (Option ℕ)) (n : ℕ) (best : Option LastGroup) → AreWithin w ps → length ps ≡ n + 1
      → ((i : ℕ) → i < n + 1 → c i (n + 1) + w i ≤ w (n + 1)) → BestFrom c limit ps 0 (n + 1) best → AreWithin w (ps ++ (price_of best ∷ []))
  within-more w ps n best within prices grows found j p below is =
      places-push None (λ j price. price ≡ Some p → p ≤ w j) ps (price_of best) (λ j less is. within j p less is) (λ is. rw prices (now best found is)) j (simp length-append at below) is
    where
      now : (best : Option LastGroup) → BestFrom c limit ps 0 (n + 1) best → price_of best ≡ Some p → p ≤ w (n + 1)
      now None found is = absurd (none-some p is)
      now (Some s) found is =
          let from = within s.from found.leads.sum.0 (let before : s.from < n + 1 = found.leads.before in omega arith) found.leads.sum.1 in
          omega (arith, same_Some s.price p is, from, grows s.from found.leads.before, found.leads.sum.2)

  -- the table of no handles
  pub table-start : (w : ℕ → ℕ) → IsTable c limit w 0 (Some 0 ∷ []) (0 ∷ [])
  table-start w = record {
    steps = steps-start;
    number = refl;
    starts = refl;
    back = λ j above within. absurd (let h : ⊥ = omega arith in h);
    within = λ j p below is. let none : j ≡ 0 = omega arith in omega (arith, same_Some 0 p (ap (price (Some 0 ∷ [])) (sym none) ∙ is));
  }

  -- the table of one handle more
  pub table-more : (w : ℕ → ℕ) (n : ℕ) (ps : List (Option ℕ)) (froms : List ℕ) (best : Option LastGroup) → IsTable c limit w n ps froms → BestFrom c limit ps 0 (n + 1) best → ((i : ℕ) → i < n + 1 → c i (n + 1) + w i ≤ w (n + 1)) → IsTable c limit w (n + 1) (ps ++ (price_of best ∷ [])) (froms ++ (from_of best ∷ []))
  table-more w n ps froms best table found grows = record {
    steps = steps-more ps froms n best table.steps table.number table.starts found;
    number = simp length-append (omega (arith, table.number));
    starts = simp length-append (omega (arith, table.starts));
    back = back-more froms n ps best table.back table.starts found;
    within = within-more w ps n best table.within table.number grows found;
  }

-- ---- the best start to an end, as a step of the table

pub best-step : (c : ℕ → ℕ → ℕ) (limit : ℕ) (ps : List (Option ℕ)) (end : ℕ) (found : Option GroupStart) → BestStart (λ i. c i end) limit ps 0 end found → BestFrom c limit ps 0 end (step_from found)
best-step c limit ps end None none = none
best-step c limit ps end (Some s) best = record {
  leads = record { before = best.before; fits = best.fits; sum = (s.price, best.is, ap (λ n. s.price + n) best.costs) };
  least = best.least;
  first = best.first;
}

-- price and cost add up within 64 bits
pub step-room : (hs : List Stopped) (c : ℕ → ℕ) (limit : ℕ) (ps : List (Option ℕ)) (end : ℕ) (s : GroupStart) → IsWithinSize hs → limit < 2 ^ 32 → AreWithin (most_of hs) ps → end ≤ length ps → IsBestStart c limit ps 0 end s → s.price + s.cost < 2 ^ 64
step-room hs c limit ps end s size small within inside best = omega (arith, size, small, within s.from s.price (omega (arith, best.before)) best.is, weight-take hs s.from, best.costs, best.fits)
