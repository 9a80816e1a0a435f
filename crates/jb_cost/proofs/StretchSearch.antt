-- A search for the best start, as it goes over one stretch more.
use Rattle.std.proofs.Common.{◌≡◌, ℕ, zero, suc, ◌+◌, ◌-◌, ◌^◌, ◌<◌, ◌≤◌, List, length, drop, Option, ap, ◌∙◌, arith, sym, sum_by, drop-drop}
use Rattle.std.proofs.lemmas.List.Sums.{sum_by-drop_more, sum_by-take-drop}
use Rattle.jb_cost.specs.declared.geometry.Geometry.{Geometry}
use Rattle.jb_cost.specs.declared.owned.Owned.{Owned}
use Rattle.jb_cost.specs.declared.stretch.Stretch.{Stretch}
use Rattle.jb_cost.specs.LastTouch.{owned_at, owned_from, copies_of, frees_of, owned_cost, IsIdle}
use Rattle.jb_cost.specs.Starts.{LeastPrice, AreIdle, AreLeast, BestStart, found_start, better_of}
use Rattle.jb_cost.specs.declared.shortcuts.Shortcuts.{Shortcuts}
use Rattle.jb_cost.specs.Search.{IsWalk, GoesEarlier, BestSoFar, AreBeyondLimit}
use Rattle.jb_cost.specs.Spans.{OwnTheSame, StillFit}
use Rattle.jb_cost.specs.declared.best_start.StartSearch.{StartSearch}
use Rattle.jb_cost.specs.declared.group_size.GroupSize.{GroupSize}
use Rattle.jb_cost.specs.declared.stretch.PricedStart.{PricedStart}
use Rattle.jb_cost.specs.Cost.{blocks_of}
use Rattle.jb_cost.proofs.Costs.{blocks-mono}
use Rattle.jb_cost.proofs.BestStarts.{best-stretch}

-- ---- the walk over the handles that own a home: what a stretch takes in, and what each turn keeps

-- a stretch that ends with `start`, with some of those before it
pub record Joins (os : List Owned) (ss : List Stretch) (start : ℕ) (s : Stretch) : Type 0 where
  pub inside : s.from ≤ start
  pub idle : AreIdle os s.from start
  pub least : (ps : List (Option ℕ)) → AreLeast ps ss (length os) → LeastPrice ps s.from (start + 1) s.least

module _ (count : Owned → ℕ) (os : List Owned) where
  -- the handles from an earlier one on own no less
  pub owned-later : (i k : ℕ) → i ≤ k → owned_from count os k ≤ owned_from count os i
  owned-later i k before =
      let at : i + (k - i) ≡ k = omega arith in
      omega (arith, sum_by-take-drop count (drop i os) (k - i), ap (sum_by count) (drop-drop (k - i) i os ∙ ap (λ n. drop n os) at))

  idle-same : ((o : Owned) → IsIdle o → count o ≡ 0) → (d i k : ℕ) → i + d ≡ k → k ≤ length os → AreIdle os i k → owned_from count os i ≡ owned_from count os k
  idle-same none zero i k is within idle = ap (owned_from count os) (let same : i ≡ k = omega (arith, is) in same)
  idle-same none (suc d) i k is within idle =
      let rest = idle-same none d (i + 1) k (omega (arith, is)) within (λ j above below. idle j (omega arith) below) in
      let parts = sum_by-drop_more count os i (record { copies = 0; frees = 0 }) (omega (arith, is)) in
      let zero_here = none (owned_at os i) (idle i (omega arith) (omega (arith, is))) in
      omega (arith, rest, parts, zero_here)

  one-more : (low : ℕ) → 0 < low → low ≤ length os → owned_from count os (low - 1) ≡ owned_from count os low + count (owned_at os (low - 1))
  one-more low positive within =
      let back : low - 1 + 1 ≡ low = omega arith in
      omega (arith, ap (owned_from count os) back, sum_by-drop_more count os (low - 1) (record { copies = 0; frees = 0 }) (omega (arith, within)))

-- what the handles from one up to another own does not change, so long as each keeps what it owns
pub owned-same : (count : Owned → ℕ) (os now : List Owned) (d i k : ℕ) → i + d ≡ k → k ≤ length os → k ≤ length now → OwnTheSame os now i k → owned_from count now i + owned_from count os k ≡ owned_from count os i + owned_from count now k
owned-same count os now zero i k is within long same = let at : i ≡ k = omega (arith, is) in rw at (omega arith)
owned-same count os now (suc d) i k is within long same =
    omega (
      arith,
      owned-same count os now d (i + 1) k (omega (arith, is)) within long (λ j above below. same j (omega arith) below),
      sum_by-drop_more count os i (record { copies = 0; frees = 0 }) (omega (arith, is)),
      sum_by-drop_more count now i (record { copies = 0; frees = 0 }) (omega (arith, is)),
      ap count (same i (omega arith) (omega (arith, is))),
    )

-- a group from an earlier start costs no less
pub owned-dearer : (g : Geometry) (os : List Owned) (i k : ℕ) → i ≤ k → owned_cost g os k ≤ owned_cost g os i
owned-dearer g os i k before = blocks-mono g _ _ _ _ (owned-later copies_of os i k before) (owned-later frees_of os i k before)

-- idle handles own nothing
pub idle-sums : (os : List Owned) (i k : ℕ) → i ≤ k → k ≤ length os → AreIdle os i k → (owned_from copies_of os i ≡ owned_from copies_of os k) × (owned_from frees_of os i ≡ owned_from frees_of os k)
idle-sums os i k before within idle =
    let at : i + (k - i) ≡ k = omega arith in
    (idle-same copies_of os (λ o none. none.0) (k - i) i k at within idle, idle-same frees_of os (λ o none. none.1) (k - i) i k at within idle)

-- one handle more to the left
pub owned-one : (os : List Owned) (low : ℕ) → 0 < low → low ≤ length os
    → (owned_from copies_of os (low - 1) ≡ owned_from copies_of os low + (owned_at os (low - 1)).copies) × (owned_from frees_of os (low - 1) ≡ owned_from frees_of os low + (owned_at os (low - 1)).frees)
owned-one os low positive within = (one-more copies_of os low positive within, one-more frees_of os low positive within)

-- sums that are no more than those of the handles from low on are within the size with this handle too
pub room-one : (os : List Owned) (low copies frees : ℕ) → 0 < low → low ≤ length os → copies ≤ owned_from copies_of os low → frees ≤ owned_from frees_of os low → owned_from copies_of os 0 + owned_from frees_of os 0 ≤ 2 ^ 62
    → (copies + (owned_at os (low - 1)).copies) + (frees + (owned_at os (low - 1)).frees) ≤ 2 ^ 62
room-one os low copies frees positive within copied freed few =
    let one = owned-one os low positive within in
    omega (arith, one.0, one.1, owned-later copies_of os 0 (low - 1) (omega arith), owned-later frees_of os 0 (low - 1) (omega arith))

-- ---- A search for the best start, as it goes over one stretch more

-- shortcuts that have changed twice
pub still-fit : (os : List Owned) (was mid now : Shortcuts) → StillFit os was mid → StillFit os mid now → StillFit os was now
still-fit os was mid now first then = record { owned = then.owned; prices = λ ps fit. then.prices ps (first.prices ps fit) }

-- a search that has gone on to an earlier handle, with the sums from there on
pub goes-earlier : {os : List Owned} {w next : StartSearch} → (next.tally.copies.entries ≡ owned_from copies_of os next.low) × (next.tally.frees.entries ≡ owned_from frees_of os next.low)
    → next.low < w.low → (next.low ≤ next.until) × (next.until ≤ length os) → AreIdle os next.low next.until → next.tally.geometry ≡ w.tally.geometry → GoesEarlier os w next
goes-earlier sums earlier order idle geometry = record {
  walk = record { copies = sums.0; frees = sums.1; within = omega (arith, order); order = order; idle = idle };
  earlier = earlier;
  geometry = geometry;
}

-- the sums of a search with what the handle before it owns
module _ {os : List Owned} {w : StartSearch} (walk : IsWalk os w × (0 < w.low)) (sum : GroupSize)
    (plus : record {
      geometry : sum.geometry ≡ w.tally.geometry;
      copies : sum.copies.entries ≡ w.tally.copies.entries + (owned_at os (w.low - 1)).copies;
      frees : sum.frees.entries ≡ w.tally.frees.entries + (owned_at os (w.low - 1)).frees;
    }) where
  sums-here : (sum.copies.entries ≡ owned_from copies_of os (w.low - 1)) × (sum.frees.entries ≡ owned_from frees_of os (w.low - 1))
  sums-here = let one = owned-one os w.low walk.1 walk.0.within in (omega (arith, plus.copies, walk.0.copies, one.0), omega (arith, plus.frees, walk.0.frees, one.1))

  -- what the handles from this one on cost
  stretch-cost : owned_cost w.tally.geometry os (w.low - 1) ≡ blocks_of sum.geometry sum.copies.entries sum.frees.entries
  stretch-cost = λ i. blocks_of (sym plus.geometry i) (sym sums-here.0 i) (sym sums-here.1 i)

  -- where that is over the limit, so is what those from an earlier one on cost
  pub stretch-over : (limit : ℕ) → limit < blocks_of sum.geometry sum.copies.entries sum.frees.entries → AreBeyondLimit w.tally.geometry os limit w.low
  stretch-over limit over i earlier = omega (arith, over, stretch-cost, owned-dearer w.tally.geometry os i (w.low - 1) (omega arith))

  module _ (from : ℕ) (before : from ≤ w.low - 1) (idle : AreIdle os from (w.low - 1)) where
    -- the handles of the stretch own no more
    pub stretch-sums : (sum.copies.entries ≡ owned_from copies_of os from) × (sum.frees.entries ≡ owned_from frees_of os from)
    stretch-sums = let same = idle-sums os from (w.low - 1) before (omega (arith, walk.0.within)) idle in (sums-here.0 ∙ sym same.0, sums-here.1 ∙ sym same.1)

    -- the best start with those of the stretch
    pub stretch-best : (limit cost : ℕ) → cost ≡ blocks_of sum.geometry sum.copies.entries sum.frees.entries → cost ≤ limit → (ps : List (Option ℕ)) (least : Option PricedStart)
        → LeastPrice ps from (w.low - 1 + 1) least → BestSoFar w.tally.geometry os limit ps w
        → BestStart (owned_cost w.tally.geometry os) limit ps from (length os) (better_of w.best (found_start least cost))
    stretch-best limit cost is fits ps least lowest tried =
        best-stretch (owned_cost w.tally.geometry os) limit ps from w.low cost (length os) (omega (arith, before, walk.1)) walk.0.within fits
        (λ i above below.
        let until : AreIdle os i (w.low - 1) = λ j late early. idle j (omega arith) early in
        let same = idle-sums os i (w.low - 1) (omega arith) (omega (arith, walk.0.within)) until in
        (λ k. blocks_of w.tally.geometry (same.0 k) (same.1 k)) ∙ stretch-cost ∙ sym is)
        w.best least lowest tried
