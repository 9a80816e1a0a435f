-- The first undercut, as one more start and one more end are looked at.
use Rattle.std.proofs.Common.{◌≡◌, ℕ, ◌+◌, ◌<◌, ◌≤◌, Bool, true, false, List, Option, Some, None, nat_le, if◌then◌else◌, inl, inr, sym, subst, ap, ◌∙◌, refl, arith, eq-or-lt_of_le}
use Rattle.std.proofs.lemmas.Bool.{cases_lt, leb-true, leb-false}
use Rattle.jb_cost.specs.declared.group_start.GroupStart.{GroupStart}
use Rattle.jb_cost.specs.Cut.{price}
use Rattle.jb_cost.specs.Starts.{BestStart}
use Rattle.jb_price.specs.Verdict.{IsDearer, Undercuts}
use Rattle.jb_price.specs.FirstUndercut.{LeastTo, FirstAmong, earlier_of}

module _ (c : ℕ → ℕ → ℕ) (limit n : ℕ) (ps : List (Option ℕ)) where
  -- from's price and the cost of the piece to the end come to less than the end's price
  abbrev pub IsCheaper : ℕ → ℕ → ℕ → Type 0
  IsCheaper from end cost = (p : ℕ) × (price ps from ≡ Some p) × IsDearer (price ps end) (p + cost)

  -- one more start: the least one now, where it is cheaper
  pub least-cheaper : (from end cost : ℕ) → cost ≡ c from end → cost ≤ limit → from < end → end ≤ n → IsCheaper from end cost → LeastTo c limit n ps from end (Some from)
  least-cheaper from end cost is fits before within cheaper = (
    record {
      before = before;
      within = within;
      fits = omega (arith, is);
      cheaper = (cheaper.0, cheaper.1, subst (λ x. IsDearer (price ps end) (cheaper.0 + x)) is cheaper.2);
    },
    λ a above below _. omega arith,
  )

  -- one more start: not the least one, where it is not cheaper
  pub least-kept : (from k end cost : ℕ) (least : Option ℕ) → k ≡ from + 1 → LeastTo c limit n ps k end least → cost ≡ c from end → (IsCheaper from end cost → ⊥) → LeastTo c limit n ps from end least
  least-kept from k end cost least next looked is fair = go least looked
    where
      not-here : (i : ℕ) → from ≡ i → Undercuts c limit n ps i end → ⊥
      not-here i same u = fair (u.cheaper.0, ap (price ps) same ∙ u.cheaper.1, subst (λ x. IsDearer (price ps end) (u.cheaper.0 + x)) (sym (is ∙ ap (λ j. c j end) same)) u.cheaper.2)

      go : (least : Option ℕ) → LeastTo c limit n ps k end least → LeastTo c limit n ps from end least
      go None looked = λ i above u. elim (eq-or-lt_of_le above) [ inl same ↦ not-here i same u | inr less ↦ looked i (omega (arith, less)) u ]
      go (Some first) looked = (looked.0, λ a above below u. elim (eq-or-lt_of_le above) [ inl same ↦ not-here a same u | inr less ↦ looked.1 a (omega (arith, less)) below u ])

  -- no earlier start fits
  pub least-all : (from end : ℕ) (least : Option ℕ) → LeastTo c limit n ps from end least → ((i : ℕ) → i < from → limit < c i end) → LeastTo c limit n ps 0 end least
  least-all from end least looked over = go least looked
    where
      late : (i : ℕ) → Undercuts c limit n ps i end → from ≤ i
      late i u = elim (cases_lt i from) [ inl less ↦ absurd (let more = over i less in let fits : c i end ≤ limit = u.fits in let h : ⊥ = omega arith in h) | inr above ↦ above ]

      go : (least : Option ℕ) → LeastTo c limit n ps from end least → LeastTo c limit n ps 0 end least
      go None looked = λ i _ u. looked i (late i u) u
      go (Some first) looked = (looked.0, λ a _ below u. looked.1 a (late a u) below u)

  -- no end has been looked at
  pub first-start : FirstAmong c limit n ps 0 None
  first-start i j within u = let before : i < j = u.before in omega arith

  -- where no start undercuts an end up to one, nor the next, none undercuts one up to the next
  up-to : (a end : ℕ) → ((j : ℕ) → j ≤ end → Undercuts c limit n ps a j → ⊥) → (Undercuts c limit n ps a (end + 1) → ⊥) → (j : ℕ) → j ≤ end + 1 → Undercuts c limit n ps a j → ⊥
  up-to a end earlier last j within u = elim (eq-or-lt_of_le within) [ inl same ↦ last (subst (Undercuts c limit n ps a) same u) | inr less ↦ earlier j (omega (arith, less)) u ]

  -- one more end
  pub first-more : (end : ℕ) (first : Option (ℕ × ℕ)) (found : Option ℕ) → FirstAmong c limit n ps end first → LeastTo c limit n ps 0 (end + 1) found → FirstAmong c limit n ps (end + 1) (earlier_of first found (end + 1))
  first-more end None None looked least = λ i j. up-to i end (looked i) (least i (omega arith)) j
  first-more end None (Some i) looked least = (
    least.0,
    λ a b within below. up-to a end (looked a) (least.1 a (omega arith) below) b within,
    λ b below u. looked i b (omega arith) u,
  )
  first-more end (Some first) None looked least = (looked.0, λ a b within below. up-to a end (λ b within. looked.1 a b within below) (least a (omega arith)) b within, looked.2)
  first-more end (Some first) (Some i) looked least = pick (nat_le first.0 i) refl
    where
      pick : (test : Bool) → nat_le first.0 i ≡ test → FirstAmong c limit n ps (end + 1) (if test then Some first else Some (i, end + 1))
      pick true e =
          let less : first.0 ≤ i = leb-true first.0 i e in
          (looked.0, λ a b within below. up-to a end (λ b within. looked.1 a b within below) (least.1 a (omega arith) (omega arith)) b within, looked.2)
      pick false e =
          let more : i < first.0 = leb-false first.0 i e in (
            least.0,
            λ a b within below. up-to a end (λ b within. looked.1 a b within (omega arith)) (least.1 a (omega arith) below) b within,
            λ b below u. looked.1 i b (omega arith) more u,
          )

  -- where the best start is no undercut, none is
  pub none-cheaper : (end : ℕ) (best : Option GroupStart) → BestStart (λ i. c i end) limit ps 0 end best → (((s : GroupStart) × (best ≡ Some s) × IsDearer (price ps end) (s.price + s.cost)) → ⊥) → LeastTo c limit n ps 0 end None
  none-cheaper end None none fair = λ i above u. none i u.cheaper.0 above u.before u.fits u.cheaper.1
  none-cheaper end (Some s) best fair = λ i above u. fair (s, refl, dearer (price ps end) (u.cheaper.0 + c i end) (s.price + s.cost) (best.least i u.cheaper.0 above u.before u.fits u.cheaper.1) u.cheaper.2)
    where
      dearer : (q : Option ℕ) (p least : ℕ) → least ≤ p → IsDearer q p → IsDearer q least
      dearer None p least most h = tt
      dearer (Some q) p least most h = omega (arith, most, h)
