-- A search for the best start, as far as it has come.
use Rattle.std.specs.Prelude.{◌≡◌, ℕ, ◌<◌, ◌≤◌, List, length, Option, IfSome}
use Rattle.jb_cost.specs.declared.geometry.Geometry.{Geometry}
use Rattle.jb_cost.specs.declared.owned.Owned.{Owned}
use Rattle.jb_cost.specs.declared.best_start.StartSearch.{StartSearch}
use Rattle.jb_cost.specs.LastTouch.{owned_from, copies_of, frees_of, owned_cost}
use Rattle.jb_cost.specs.Starts.{BestStart, AreIdle}
use Rattle.jb_cost.specs.Spans.{FitPrices}
use Rattle.jb_cost.specs.declared.shortcuts.Shortcuts.{Shortcuts}

-- the sums are those of the handles from low on, of which the first ones, up to until, are idle
pub record IsWalk (os : List Owned) (w : StartSearch) : Type 0 where
  pub copies : w.tally.copies.entries ≡ owned_from copies_of os w.low
  pub frees : w.tally.frees.entries ≡ owned_from frees_of os w.low
  pub within : w.low ≤ length os
  pub order : (w.low ≤ w.until) × (w.until ≤ length os)
  pub idle : AreIdle os w.low w.until

-- a search has gone on to an earlier handle
pub record GoesEarlier (os : List Owned) (w next : StartSearch) : Type 0 where
  pub walk : IsWalk os next
  pub earlier : next.low < w.low
  pub geometry : next.tally.geometry ≡ w.tally.geometry

-- its best start is that of the handles from low on
abbrev pub BestSoFar : Geometry → List Owned → ℕ → List (Option ℕ) → StartSearch → Type 0
BestSoFar g os limit ps w = BestStart (owned_cost g os) limit ps w.low (length os) w.best

-- if its best start was that, by the prices that the shortcuts are of, it is so too where the search has gone on
abbrev pub StaysBest : List Owned → ℕ → Shortcuts → StartSearch → Option StartSearch → Type 0
StaysBest os limit k w next =
    (ps : List (Option ℕ)) → FitPrices ps os k → BestSoFar w.tally.geometry os limit ps w
    → IfSome next (BestSoFar w.tally.geometry os limit ps)

-- no group from a start before low is within the limit
abbrev pub AreBeyondLimit : Geometry → List Owned → ℕ → ℕ → Type 0
AreBeyondLimit g os limit low = (i : ℕ) → i < low → limit < owned_cost g os i
