use Rattle.std.proofs.Common.{◌≡◌, ℕ, ◌+◌, ◌-◌, ◌*◌, ◌/◌, ◌%◌, ◌<◌, List, length, set, Option, Some, None, inl, inr, sym, subst, ap, ◌∙◌, arith, get_or-set_same, get_or-set_other, length-set}
use Rattle.std.proofs.lemmas.Bool.{cases_eq}
use Rattle.std.proofs.lemmas.Option.{same_Some}
use Rattle.jb_cost.specs.declared.span.Span.{Span}
use Rattle.jb_cost.specs.Spans.{span_at, IsSpan, IsBestOf}
use Rattle.std.proofs.lemmas.List.{get_or_read}
use Rattle.jb_cost.proofs.shortcuts.Shortcuts.span.Goals as goal
use Rattle.jb_cost.proofs.shortcuts.Shortcuts.span.Goals.{In-Some}

-- the span of a place ends with the eight handles of that place
place-ends : (end : ℕ) → 0 < end → end % 8 ≡ 0 → 8 * (end / 8 - 1) + 8 ≡ end
place-ends end positive whole = omega arith

-- what holds of each span that is known, and of one that is put in its place, holds of each after that
each-set : (P : ℕ → Span → Type 0) (xs : List (Option Span)) (place : ℕ) (s : Span) → place < length xs → (end : ℕ) → 8 * place + 8 ≡ end → ((k : ℕ) (x : Span) → span_at xs k ≡ Some x → P (8 * k + 8) x) → P end s
    → (k : ℕ) (x : Span) → span_at (set xs place (Some s)) k ≡ Some x → P (8 * k + 8) x
each-set P xs place s inside end at each one k x is = elim (cases_eq k place) [
  | inl here ↦
      let same : Some s ≡ Some x = sym (get_or-set_same xs place (Some s) None inside) ∙ ap (span_at (set xs place (Some s))) (sym here) ∙ is in
      let ends : end ≡ 8 * k + 8 = omega (arith, at, here) in
      subst (P (8 * k + 8)) (same_Some s x same) (subst (λ n. P n s) ends one)
  | inr apart ↦ each k x (sym (get_or-set_other xs place k (Some s) None apart) ∙ is)
]

-- the span that was known is that of its place
known : (c : In-Some) → span_at c.args.self.now.spans.items (c.args.end / 8 - 1) ≡ Some c.in-Some.span
known c =
    let at = place-ends c.args.end c.requires.inside.0 c.requires.whole in
    sym (get_or_read c.args.self.now.spans.items _ c.index.result.now (omega (arith, c.requires.fit.places, c.requires.inside.1, at)) c.index.ensures _) ∙ c.in-Some.is

pub returns-in-Some-clause-span : goal.returns-in-Some-clause-span
returns-in-Some-clause-span c = rw (place-ends c.args.end c.requires.inside.0 c.requires.whole) at (c.requires.fit.spans _ _ (known (goal.at.returns-in-Some-clause-span c).In-Some))

pub returns-in-Some-clause-best : goal.returns-in-Some-clause-best
returns-in-Some-clause-best c ps fit = rw (place-ends c.args.end c.requires.inside.0 c.requires.whole) at (fit.bests _ _ (known (goal.at.returns-in-Some-clause-best c).In-Some))

pub returns-clause-fit : goal.returns-clause-fit
returns-clause-fit c =
    let os = c.args.owned.now in
    let at = place-ends c.args.end c.requires.inside.0 c.requires.whole in
    let counted = c.counted-span in
    let still = counted.ensures.fit in
    let placed = λ (P : ℕ → Span → Type 0). each-set P counted.new.self.spans.items (c.args.end / 8 - 1) counted.result (omega (arith, still.owned.places, at, c.requires.inside.1)) c.args.end at in
    record {
      owned = record {
        number = still.owned.number;
        places = simp length-set still.owned.places;
        back = still.owned.back;
        spans = placed (IsSpan os) still.owned.spans counted.ensures.span;
      };
      prices = λ ps fit. let now = still.prices ps fit in record { leasts = now.leasts; bests = placed (IsBestOf ps os) now.bests (counted.ensures.best ps fit) };
    }
