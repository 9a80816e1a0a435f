-- The first undercut among those that were looked at.
use Rattle.std.specs.Prelude.{ℕ, ◌<◌, ◌≤◌, List, Option, Some, None, nat_le, if◌then◌else◌}
use Rattle.jb_price.specs.Verdict.{Undercuts}

-- the earlier of the first undercut so far and one to a later end, from i
abbrev pub earlier_of : Option (ℕ × ℕ) → Option ℕ → ℕ → Option (ℕ × ℕ)
earlier_of first None end = first
earlier_of None (Some i) end = Some (i, end)
earlier_of (Some first) (Some i) end = if nat_le first.0 i then Some first else Some (i, end)

module _ (c : ℕ → ℕ → ℕ) (limit n : ℕ) (ps : List (Option ℕ)) where
  -- the least start from low on of an undercut to the end, or that there is none
  abbrev pub LeastTo : ℕ → ℕ → Option ℕ → Type 0
  LeastTo low end None = (i : ℕ) → low ≤ i → Undercuts c limit n ps i end → ⊥
  LeastTo low end (Some i) =
      Undercuts c limit n ps i end × ((a : ℕ) → low ≤ a → a < i → Undercuts c limit n ps a end → ⊥)

  -- the first undercut to the ends up to this one, or that there is none
  abbrev pub FirstAmong : ℕ → Option (ℕ × ℕ) → Type 0
  FirstAmong end None = (i j : ℕ) → j ≤ end → Undercuts c limit n ps i j → ⊥
  FirstAmong end (Some first) =
      Undercuts c limit n ps first.0 first.1 × ((a b : ℕ) → b ≤ end → a < first.0 → Undercuts c limit n ps a b → ⊥)
      × ((b : ℕ) → b < first.1 → Undercuts c limit n ps first.0 b → ⊥)
