-- Where a search among rising homes ends.
use Rattle.std.specs.Prelude.{◌≡◌, ℕ, ◌<◌, ◌≤◌, List, length, slice_index_or, Result, Ok, Err}

-- the entry at i is of home b
pub record StandsAt {W : Type 0} (es : List (ℕ × W)) (b i : ℕ) : Type 0 where
  pub inside : i < length es
  pub home : (d : ℕ × W) → (slice_index_or es i d).0 ≡ b

-- no entry is of home b, and one would go to i
pub record GoesTo {W : Type 0} (es : List (ℕ × W)) (b i : ℕ) : Type 0 where
  pub inside : i ≤ length es
  pub before : (j : ℕ) (d : ℕ × W) → j < i → (slice_index_or es j d).0 < b
  pub after : (j : ℕ) (d : ℕ × W) → i ≤ j → j < length es → b < (slice_index_or es j d).0

-- the place of home b, or the place where it would go
abbrev pub IsPlaced : {W : Type 0} → List (ℕ × W) → ℕ → Result ℕ ℕ → Type 0
IsPlaced es b (Ok i) = StandsAt es b i
IsPlaced es b (Err i) = GoesTo es b i
