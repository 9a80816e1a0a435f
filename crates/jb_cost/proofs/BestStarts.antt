-- The least prices of stretches that are joined, and the best start as one more stretch is looked at.
use Rattle.std.proofs.Common.{◌≡◌, ℕ, ◌+◌, ◌-◌, ◌<◌, ◌≤◌, Bool, true, false, List, Option, Some, None, nat_lt, if◌then◌else◌, inl, inr, sym, ap, subst, ◌∙◌, refl, arith}
use Rattle.std.proofs.lemmas.Bool.{ltb-true, ltb-false, cases_lt}
use Rattle.std.proofs.lemmas.Option.{none-some, same_Some}
use Rattle.jb_cost.specs.declared.stretch.PricedStart.{PricedStart}
use Rattle.jb_cost.specs.declared.group_start.GroupStart.{GroupStart}
use Rattle.jb_cost.specs.Cut.{price}
use Rattle.jb_cost.specs.Starts.{priced_of, found_start, dearer_by, better_of, LeastPrice, IsBestStart, BestStart}

same-price : (ps : List (Option ℕ)) (i j p q : ℕ) → i ≡ j → price ps i ≡ Some p → price ps j ≡ Some q → p ≡ q
same-price ps i j p q same is also = same_Some p q (sym is ∙ ap (price ps) same ∙ also)

-- a start alone
pub least-one : (ps : List (Option ℕ)) (k : ℕ) (start : Option ℕ) → price ps k ≡ start → LeastPrice ps k (k + 1) (priced_of k start)
least-one ps k None is = λ i p above below also. let same : k ≡ i = omega arith in none-some p (sym is ∙ ap (price ps) same ∙ also)
least-one ps k (Some q) is = record {
  above = omega arith;
  below = omega arith;
  is = is;
  least = λ i p above below also. let same = same-price ps i k p q (omega arith) also is in omega arith;
  first = λ i p above before also. absurd (let h : ⊥ = omega arith in h);
}

module _ (c : ℕ → ℕ) (limit : ℕ) (ps : List (Option ℕ)) where
  -- the starts from an earlier one up to mid, and those from low on: where the two overlap, they speak of the same starts
  module _ (from low mid end : ℕ) (back : from ≤ low) (overlap : low ≤ mid) (within : mid ≤ end) where
    -- the later one stays the best where every earlier one is worse
    stays : (b : GroupStart) → IsBestStart c limit ps low end b → ((i p : ℕ) → from ≤ i → i < mid → c i ≤ limit → price ps i ≡ Some p → b.price + b.cost < p + c i) → IsBestStart c limit ps from end b
    stays b tried worse = record {
      above = omega (arith, tried.above);
      before = tried.before;
      fits = tried.fits;
      is = tried.is;
      costs = tried.costs;
      least = λ i p above below fit is. elim (cases_lt i mid) [ inl less ↦ (let more = worse i p above less fit is in omega arith) | inr more ↦ tried.least i p (omega (arith, more)) below fit is ];
      first = λ i p above before fit is. elim (cases_lt i mid) [ inl less ↦ worse i p above less fit is | inr more ↦ tried.first i p (omega (arith, more)) before fit is ];
    }

    -- the earlier one becomes it where no later one is better
    becomes : (s : GroupStart) → IsBestStart c limit ps from mid s → ((i p : ℕ) → mid ≤ i → i < end → c i ≤ limit → price ps i ≡ Some p → s.price + s.cost ≤ p + c i) → IsBestStart c limit ps from end s
    becomes s one least = record {
      above = one.above;
      before = omega (arith, one.before);
      fits = one.fits;
      is = one.is;
      costs = one.costs;
      least = λ i p above below fit is. elim (cases_lt i mid) [ inl less ↦ one.least i p above less fit is | inr more ↦ least i p more below fit is ];
      first = one.first;
    }

    pub best-joined : (best earlier : Option GroupStart) → BestStart c limit ps from mid earlier → BestStart c limit ps low end best → BestStart c limit ps from end (better_of best earlier)
    best-joined None None none tried = λ i p above below fit is. elim (cases_lt i mid) [ inl less ↦ none i p above less fit is | inr more ↦ tried i p (omega (arith, more)) below fit is ]
    best-joined (Some b) None none tried = stays b tried (λ i p above less fit is. absurd (none i p above less fit is))
    best-joined None (Some s) one tried = becomes s one (λ i p more below fit is. absurd (tried i p (omega (arith, more)) below fit is))
    best-joined (Some b) (Some s) one tried = pick (nat_lt (b.price + b.cost) (s.price + s.cost)) refl
      where
        pick : (test : Bool) → nat_lt (b.price + b.cost) (s.price + s.cost) ≡ test → BestStart c limit ps from end (if test then Some b else Some s)
        pick true e =
            let less : b.price + b.cost < s.price + s.cost = ltb-true (b.price + b.cost) (s.price + s.cost) e in
            stays b tried (λ i p above sooner fit is. let most = one.least i p above sooner fit is in omega arith)
        pick false e =
            let most : s.price + s.cost ≤ b.price + b.cost = ltb-false (b.price + b.cost) (s.price + s.cost) e in
            becomes s one (λ i p more below fit is. let lowest = tried.least i p (omega (arith, more)) below fit is in omega arith)

  -- the starts of a stretch, which cost the same
  best-alike : (from low cost : ℕ) → cost ≤ limit → ((i : ℕ) → from ≤ i → i < low → c i ≡ cost) → (earlier : Option PricedStart) → LeastPrice ps from low earlier → BestStart c limit ps from low (found_start earlier cost)
  best-alike from low cost fits same None none = λ i p above below fit is. none i p above below is
  best-alike from low cost fits same (Some s) least =
      let here = same s.from least.above least.below in
      record {
        above = least.above;
        before = least.below;
        fits = omega (arith, here);
        is = least.is;
        costs = sym here;
        least = λ i p above below fit is. let most = least.least i p above below is in omega (arith, same i above below);
        first = λ i p above before fit is. let less = least.first i p above before is in omega (arith, same i above (omega (arith, before, least.below)));
      }

  -- a stretch that ends with the handle before low, and the starts from low on
  pub best-stretch : (from low cost end : ℕ) → from < low → low ≤ end → cost ≤ limit → ((i : ℕ) → from ≤ i → i < low → c i ≡ cost) → (best : Option GroupStart) (least : Option PricedStart) → LeastPrice ps from (low - 1 + 1) least
      → BestStart c limit ps low end best → BestStart c limit ps from end (better_of best (found_start least cost))
  best-stretch from low cost end before inside fits same best least lowest tried =
      let back : low - 1 + 1 ≡ low = omega arith in
      best-joined from low low end (omega arith) (omega arith) inside best (found_start least cost) (best-alike from low cost fits same least (rw back at lowest)) tried

-- the best start by other costs and prices, and from another start on, where the same groups fit and each costs by so much more
module _ (c d : ℕ → ℕ) (limit most : ℕ) (ps qs : List (Option ℕ)) (low from end more : ℕ) (back : from ≤ low)
    (same : (i : ℕ) → low ≤ i → i < end → d i ≡ c i + more) (alike : (i : ℕ) → i < end → price qs i ≡ price ps i)
    (kept : (i : ℕ) → low ≤ i → i < end → c i ≤ limit → d i ≤ most) (fitted : (i : ℕ) → from ≤ i → i < end → d i ≤ most → (low ≤ i) × (c i ≤ limit)) where
  pub best-moved : (s : Option GroupStart) → BestStart c limit ps low end s → BestStart d most qs from end (dearer_by more s)
  best-moved None none = λ i p above below fit is. let was = fitted i above below fit in none i p was.0 below was.1 (sym (alike i below) ∙ is)
  best-moved (Some s) best =
      let here = same s.from best.above best.before in
      record {
        above = omega (arith, best.above);
        before = best.before;
        fits = kept s.from best.above best.before best.fits;
        is = alike s.from best.before ∙ best.is;
        costs = omega (arith, here, best.costs);
        least = λ i p above below fit is.
            let was = fitted i above below fit in
            let lowest = best.least i p was.0 below was.1 (sym (alike i below) ∙ is) in
            omega (arith, same i was.0 below);
        first = λ i p above before fit is.
            let below : i < end = omega (arith, before, best.before) in
            let was = fitted i above below fit in
            let lower = best.first i p was.0 before was.1 (sym (alike i below) ∙ is) in
            omega (arith, same i was.0 below);
      }

dearer-none : (s : Option GroupStart) → dearer_by 0 s ≡ s
dearer-none None = refl
dearer-none (Some s) = ap (λ cost. Some (record { from = s.from; price = s.price; cost = cost })) (let none : s.cost + 0 ≡ s.cost = omega arith in none)

-- no earlier start fits
pub best-all : (c : ℕ → ℕ) (limit : ℕ) (ps : List (Option ℕ)) (low end : ℕ) (best : Option GroupStart) → BestStart c limit ps low end best → ((i : ℕ) → i < low → limit < c i) → BestStart c limit ps 0 end best
best-all c limit ps low end best tried over =
    let late = λ (i : ℕ) (fits : c i ≤ limit). elim (cases_lt i low) as (λ _. low ≤ i) [ inl less ↦ absurd (let more = over i less in let h : ⊥ = omega arith in h) | inr above ↦ above ] in
    subst (BestStart c limit ps 0 end) (dearer-none best)
    (best-moved c c limit limit ps ps low 0 end 0 (omega arith) (λ i above below. omega arith) (λ i below. refl) (λ i above below fit. fit) (λ i above below fit. (late i fit, fit)) best tried)

-- the same by another way to compute the costs, and where the prices below the end are the same
pub best-as : (c d : ℕ → ℕ) (limit : ℕ) (ps qs : List (Option ℕ)) (low end : ℕ) → ((i : ℕ) → low ≤ i → i < end → c i ≡ d i) → ((i : ℕ) → i < end → price qs i ≡ price ps i)
    → (s : Option GroupStart) → BestStart c limit ps low end s → BestStart d limit qs low end s
best-as c d limit ps qs low end same alike s tried =
    subst (BestStart d limit qs low end) (dearer-none s)
    (best-moved c d limit limit ps qs low low end 0 (omega arith) (λ i above below. omega (arith, same i above below)) alike
    (λ i above below fit. omega (arith, same i above below)) (λ i above below fit. (above, omega (arith, fit, same i above below))) s tried)

-- least prices look only at the prices below their end
pub least-as : (ps qs : List (Option ℕ)) (low high : ℕ) → ((i : ℕ) → i < high → price qs i ≡ price ps i) → (s : Option PricedStart) → LeastPrice ps low high s → LeastPrice qs low high s
least-as ps qs low high same None none = λ i p above below is. none i p above below (sym (same i below) ∙ is)
least-as ps qs low high same (Some s) least = record {
  above = least.above;
  below = least.below;
  is = same s.from least.below ∙ least.is;
  least = λ i p above below is. least.least i p above below (sym (same i below) ∙ is);
  first = λ i p above before is. least.first i p above before (sym (same i (omega (arith, before, least.below))) ∙ is);
}
