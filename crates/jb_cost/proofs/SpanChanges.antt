-- What the handles own as a home goes from one to another, and the spans and the shortcuts then.
use Rattle.std.proofs.Common.{◌≡◌, ℕ, ◌+◌, ◌<◌, ◌≤◌, Bool, true, false, cond, nat_le, List, [], ◌∷◌, ◌++◌, length, drop, set, Option, Some, None, inl, inr, refl, sym, ap, ◌∙◌, arith, length-append, length-set, ◌≢◌, ◌*◌, ◌/◌, not, subst, sum_by, unwrap_or, option_map, nat_cmp}
use Rattle.std.specs.Map.{values_of}
use Rattle.std.specs.Cmp.{nat_cmp_total}
use Rattle.std.specs.Option.{ForSome}
use Rattle.std.specs.BTreeMap.{BTreeMap, IsOrdered, get, values, insert_entry, is_at}
use Rattle.std.proofs.lemmas.Bool.{cases_lt, le-leb, lt-leb}
use Rattle.std.proofs.lemmas.Bool.Decides.{nat_tests}
use Rattle.std.proofs.lemmas.List.{drop-set-lt, take-set-le, drop-append-le, drop_all, get_or-set_other}
use Rattle.std.proofs.lemmas.List.Sums.{sum_by-set, sum_by-drop_more, sum_by-take-drop, sum_by-le-sum_by, sum_by_push}
use Rattle.std.proofs.lemmas.Map.Entries.{sum_by-insert_entry}
use Rattle.jb_cost.specs.declared.owned.Touch.{Touch}
use Rattle.jb_cost.specs.declared.owned.Owned.{Owned}
use Rattle.jb_cost.specs.LastTouch.{owned_at, owned_from, counts_since, CountsLastTouches, AreOwners, Owns, OwnsNoMore, Lose, copies_of, frees_of, left_copy, IsIdle}
use Rattle.jb_cost.specs.declared.stretch.PricedStart.{PricedStart}
use Rattle.jb_cost.specs.declared.stretch.Stretch.{Stretch}
use Rattle.jb_cost.specs.declared.span.Span.{Span}
use Rattle.jb_cost.specs.declared.shortcuts.Shortcuts.{Shortcuts}
use Rattle.jb_cost.specs.Starts.{AreIdle}
use Rattle.jb_cost.specs.Spans.{span_at, AreSpans, AreBest, KeepSpans, FitOwned}
use Rattle.jb_cost.proofs.Cuts.{places-push}
use Rattle.jb_cost.proofs.MeetHomes.{turned}
use Rattle.jb_cost.proofs.SpanSearch.{span-as, span-best-as}

-- ---- what the handles own, as a home goes from one to another

module _ (count : Owned → ℕ) (os : List Owned) where
  -- what handle k owns changes
  owned-set : (k : ℕ) (now : Owned) → k < length os → (i : ℕ) → owned_from count (set os k now) i + cond (nat_le i k) (count (owned_at os k)) 0 ≡ owned_from count os i + cond (nat_le i k) (count now) 0
  owned-set k now inside i = elim (cases_lt k i) [
    | inl late ↦ rw (lt-leb i k late) (ap (λ xs. sum_by count xs + 0) (drop-set-lt i os k now late))
    | inr early ↦ rw (le-leb i k early) (omega (arith, sum_by-take-drop count os i, sum_by-take-drop count (set os k now) i, ap (sum_by count) (take-set-le i os k now early), sum_by-set count os k now (record { copies = 0; frees = 0 }) inside))
  ]

  -- an idle handle more at the end
  owned-pushed : (new : Owned) → count new ≡ 0 → (i : ℕ) → owned_from count (os ++ new ∷ []) i ≡ owned_from count os i
  owned-pushed new none i = elim (cases_lt (length os) i) [
    | inl late ↦ ap (sum_by count) (drop_all i (os ++ new ∷ []) (simp length-append (omega (arith, late))) ∙ sym (drop_all i os (omega (arith, late))))
    | inr early ↦ let more = ap (sum_by count) (drop-append-le i os (new ∷ []) early) ∙ sum_by_push count (drop i os) new in omega (arith, more, none)
  ]

module _ (count : Owned → ℕ) (kind : Bool → Bool) (os : List Owned) where
  -- the handle of a touch loses a home, or gains one
  pub lost : (t : Touch) (now : Owned) → t.handle < length os → count now + cond (kind t.copy) 1 0 ≡ count (owned_at os t.handle)
      → (i : ℕ) → owned_from count (set os t.handle now) i + counts_since kind i t ≡ owned_from count os i
  lost t now inside less i = grind (arith, nat_tests, owned-set count os t.handle now inside i)

  pub gained : (t : Touch) (now : Owned) → t.handle < length os → count now ≡ count (owned_at os t.handle) + cond (kind t.copy) 1 0
      → (i : ℕ) → owned_from count (set os t.handle now) i ≡ owned_from count os i + counts_since kind i t
  gained t now inside more i = grind (arith, nat_tests, owned-set count os t.handle now inside i)

  module _ (last : BTreeMap ℕ Touch) (ordered : IsOrdered nat_cmp last) (so_far : CountsLastTouches count kind os last) (home : ℕ) where
    -- the handle that touched a home last owns it
    owns : (t : Touch) → get nat_cmp last home ≡ Some t → t.handle < length os → cond (kind t.copy) 1 0 ≤ count (owned_at os t.handle)
    owns t was inside =
        let k = t.handle in
        let other : Touch = record { handle = k + 1; copy = t.copy } in
        let entries = insert_entry nat_cmp last.entries home other in
        let sums : (i : ℕ) → sum_by (counts_since kind i) (values_of entries) + counts_since kind i t ≡ sum_by (counts_since kind i) (values last) + counts_since kind i other =
        λ i. ap (λ o. sum_by (counts_since kind i) (values_of entries) + unwrap_or (option_map (counts_since kind i) o) 0) (sym was) ∙ sum_by-insert_entry (counts_since kind i) nat_cmp_total last.entries home other ordered in
        let less = sum_by-le-sum_by (counts_since kind (k + 1)) (counts_since kind k) (values_of entries) (λ x. grind (arith, nat_tests)) in
        grind (arith, nat_tests, so_far k, so_far (k + 1), sums k, sums (k + 1), less, sum_by-drop_more count os k (record { copies = 0; frees = 0 }) inside)

    -- a touch more, of a home that the handle before has lost
    counts-more : (mid now : List Owned) (next : BTreeMap ℕ Touch) (before : Option Touch) (t : Touch) → before ≡ get nat_cmp last home → next.entries ≡ insert_entry nat_cmp last.entries home t
        → Lose count kind before os mid → ((i : ℕ) → owned_from count now i ≡ owned_from count mid i + counts_since kind i t) → CountsLastTouches count kind now next
    counts-more mid now next before t was entries lose gain i =
        let sums : sum_by (counts_since kind i) (values next) + unwrap_or (option_map (counts_since kind i) before) 0 ≡ sum_by (counts_since kind i) (values last) + counts_since kind i t =
        rw (entries, was) (sum_by-insert_entry (counts_since kind i) nat_cmp_total last.entries home t ordered) in
        omega (arith, so_far i, lose i, gain i, sums)

below-more : (n : ℕ) (here : Bool) (old : Option Touch) (new t : Touch) → new.handle < n → ((t : Touch) → old ≡ Some t → t.handle < n) → cond here (Some new) old ≡ Some t → t.handle < n
below-more n true old new t inside below is = let same : Some new ≡ Some t = is in let at : new.handle ≡ t.handle = cc in omega (arith, at, inside)
below-more n false old new t inside below is = below t is

module _ (os : List Owned) (last : BTreeMap ℕ Touch) (owners : AreOwners os last) where
  -- a handle more, without a home so far
  pub owners-pushed : (new : Owned) → IsIdle new → AreOwners (os ++ new ∷ []) last
  owners-pushed new idle = record {
    ordered = owners.ordered;
    below = λ q t is. simp length-append (omega (arith, owners.below q t is));
    copies = λ i. owned-pushed copies_of os new idle.0 i ∙ owners.copies i;
    frees = λ i. owned-pushed frees_of os new idle.1 i ∙ owners.frees i;
  }

  module _ (home : ℕ) (before : Option Touch) (was : before ≡ get nat_cmp last home) where
    pub owner : ForSome before (Owns os)
    owner t is =
        let here = sym was ∙ is in
        let inside = owners.below home t here in
        record {
          inside = inside;
          copies = owns copies_of left_copy os last owners.ordered owners.copies home t here inside;
          frees = omega (arith, turned t.copy, owns frees_of not os last owners.ordered owners.frees home t here inside);
        }

    -- a handle has taken over the home
    pub owners-more : (mid : List Owned) (t : Touch) (now : Owned) (next : BTreeMap ℕ Touch) → length mid ≡ length os → t.handle < length mid → Lose copies_of left_copy before os mid → Lose frees_of not before os mid
        → now.copies ≡ (owned_at mid t.handle).copies + cond t.copy 1 0 → now.frees ≡ (owned_at mid t.handle).frees + cond t.copy 0 1 → IsOrdered nat_cmp next → next.entries ≡ insert_entry nat_cmp last.entries home t
        → ((q : ℕ) → get nat_cmp next q ≡ cond (is_at (nat_cmp home) q) (Some t) (get nat_cmp last q)) → AreOwners (set mid t.handle now) next
    owners-more mid t now next number inside lose_copies lose_frees copied freed ordered entries put = record {
      ordered = ordered;
      below = λ q touch is. simp length-set (below-more (length mid) (is_at (nat_cmp home) q) _ t touch inside (λ x h. omega (arith, owners.below q x h, number)) (sym (put q) ∙ is));
      copies = counts-more copies_of left_copy os last owners.ordered owners.copies home mid _ next before t was entries lose_copies (gained copies_of left_copy mid t now inside copied);
      frees = counts-more frees_of not os last owners.ordered owners.frees home mid _ next before t was entries lose_frees (gained frees_of not mid t now inside (freed ∙ ap (λ n. (owned_at mid t.handle).frees + n) (sym (turned t.copy))));
    }

-- ---- the spans, as handles lose and gain homes

-- a table with the same entries
pub owners-as : (os : List Owned) (last next : BTreeMap ℕ Touch) → next.entries ≡ last.entries → AreOwners os last → AreOwners os next
owners-as os last next same owners = record {
  ordered = rw same owners.ordered;
  below = rw same owners.below;
  copies = rw same owners.copies;
  frees = rw same owners.frees;
}

-- a handle that owns a home is not idle
pub not-idle : (os : List Owned) (t : Touch) → Owns os t → IsIdle (owned_at os t.handle) → ⊥
not-idle os t owns idle = grind (arith, nat_tests)

module _ (os : List Owned) (xs : List (Option Span)) (spans : AreSpans os xs) where
  -- the span of a handle that loses a home is forgotten
  pub keeps-lost : (ys : List (Option Span)) (h : ℕ) (new : Owned) → (IsIdle (owned_at os h) → ⊥) → length ys ≡ length xs
      → ((k : ℕ) (s : Span) → span_at ys k ≡ Some s → (span_at xs k ≡ Some s) × (k ≢ h / 8)) → KeepSpans os (set os h new) xs ys
  keeps-lost ys h new owner places others = record {
    places = places;
    known = λ k s is.
        let was = others k s is in (
          was.0,
          λ j above below. get_or-set_other os h j new _ (λ same. elim (cases_lt j (8 * k)) [
            | inl before ↦ owner (subst (λ i. IsIdle (owned_at os i)) same ((spans k s was.0).idle j above (omega (arith, before))))
            | inr here ↦ was.1 (let at : k ≡ h / 8 = omega (arith, same, here, below) in at)
          ]),
        );
  }

-- the spans as they are
pub keeps-all : (os : List Owned) (xs : List (Option Span)) → KeepSpans os os xs xs
keeps-all os xs = record { places = refl; known = λ k s is. (is, λ j above below. refl) }

module _ (os now : List Owned) (xs ys : List (Option Span)) (kept : KeepSpans os now xs ys) where
  pub keeps-more : (next : List Owned) (zs : List (Option Span)) → KeepSpans now next ys zs → KeepSpans os next xs zs
  keeps-more next zs more = record {
    places = more.places ∙ kept.places;
    known = λ k s is. let now = more.known k s is in let was = kept.known k s now.0 in (was.0, λ j above below. now.1 j above below ∙ was.1 j above below);
  }

  module _ (spans : AreSpans os xs) where
    -- no span has a handle after the old ones
    pub keeps-after : (next : List Owned) → ((j : ℕ) → j < length os → owned_at next j ≡ owned_at now j) → KeepSpans os next xs ys
    keeps-after next same = record {
      places = kept.places;
      known = λ k s is. let was = kept.known k s is in (was.0, λ j above below. same j (omega (arith, below, (spans k s was.0).within)) ∙ was.1 j above below);
    }

    module _ (long : length os ≤ length now) where
      pub spans-kept : AreSpans now ys
      spans-kept k s is = let was = kept.known k s is in span-as os now (8 * k + 8) s (spans k s was.0) long was.1

      pub bests-kept : (ps : List (Option ℕ)) → AreBest ps os xs → AreBest ps now ys
      bests-kept ps bests k s is = let was = kept.known k s is in span-best-as os now (8 * k + 8) s (spans k s was.0) long was.1 ps (bests k s was.0)

-- the shortcuts of one handle more, which has taken over homes of others
pub fit-more : (os now : List Owned) (least : Option PricedStart) (was next : Shortcuts) (xs : List (Option Span)) → FitOwned os was → length now ≡ length os + 1
    → ((k : ℕ) → k < length os → OwnsNoMore (owned_at os k) (owned_at now k)) → KeepSpans os now was.spans.items xs
    → next.stretches.items ≡ was.stretches.items ++ record { from = length os; least = least } ∷ []
    → (length xs ≡ length was.stretches.items / 8 → length next.spans.items ≡ length next.stretches.items / 8)
    → ((k : ℕ) (s : Span) → span_at next.spans.items k ≡ Some s → span_at xs k ≡ Some s) → FitOwned now next
fit-more os now least was next xs fit long less kept stretches more known =
    let last : Stretch = record { from = length os; least = least } in
    let longer : length next.stretches.items ≡ length now = ap length stretches ∙ simp length-append (omega (arith, fit.number, long)) in
    record {
      number = longer;
      places = more (omega (arith, kept.places, fit.places, fit.number)) ∙ ap (λ n. n / 8) longer;
      back = λ k below.
          rw stretches
          (places-push (record { from = 0; least = None }) (λ k (x : Stretch). (x.from ≤ k) × AreIdle now x.from k) was.stretches.items last
          (λ k early.
          let here : k < length os = omega (arith, early, fit.number) in
          let goes = fit.back k here in
          (goes.0, λ j above before. let was = goes.1 j above before in let now = less j (omega (arith, before, here)) in (omega (arith, was.0, now.0), omega (arith, was.1, now.1))))
          (omega (arith, fit.number), λ j above before. absurd (omega (arith, above, before, fit.number)))
          k (omega (arith, below, long, fit.number)));
      spans = λ k s is. spans-kept os now was.spans.items xs kept fit.spans (omega (arith, long)) k s (known k s is);
    }
