-- How many calls pass before the one that fails, or none once it has failed.
use Rattle.std.specs.Prelude.{ℕ, zero, suc, Bool, true, false, Option, Some, None}

-- the next call is the one that fails
abbrev pub is_next : Option ℕ → Bool
is_next (Some zero) = true
is_next (Some (suc _)) = false
is_next None = false

-- one call later
abbrev pub next_of : Option ℕ → Option ℕ
next_of (Some zero) = None
next_of (Some (suc calls)) = Some calls
next_of None = None

-- how many calls have failed
abbrev pub failures : Option ℕ → ℕ
failures (Some _) = 0
failures None = 1
