-- A count of failed calls that stays at the top of a u64.
use Rattle.std.specs.Prelude.{◌≡◌, ◌≤◌, ℕ, Bool, true, false, ◌+◌, ◌-◌, ◌^◌, min, Result, MatchResult}

-- the largest count
abbrev pub most_faults : ℕ
most_faults = 2 ^ 64 - 1

-- the count rose, or it is at the top, where every fault counts as a rise
pub record MoreFaults (old new : ℕ) : Type 0 where
  pub rises : min (old + 1) (2 ^ 64 - 1) ≤ new
  pub no_fewer : old ≤ new

-- the count stays where the call succeeds and rises where it fails
abbrev pub CountsFault : {T E : Type 0} → Result T E → ℕ → ℕ → Type 0
CountsFault result old new = MatchResult result (λ _. new ≡ old) (λ _. MoreFaults old new)

-- the same, by whether the call succeeds
abbrev pub CountsCall : Bool → ℕ → ℕ → Type 0
CountsCall true old new = new ≡ old
CountsCall false old new = MoreFaults old new

-- the count stays: no call has failed
abbrev pub CountsNone : ℕ → ℕ → Type 0
CountsNone old new = new ≡ old

-- the count may be any here
abbrev pub CountsAny : ℕ → ℕ → Type 0
CountsAny old new = Unit {0}

-- the count of a disk of its own: by one where a call fails, up to the largest count
abbrev pub CountsOne : Bool → ℕ → ℕ → Type 0
CountsOne true old new = new ≡ old
CountsOne false old new = new ≡ min (old + 1) (2 ^ 64 - 1)

-- two counts of the same disk as one, which stays at the top too
abbrev pub counted : ℕ → ℕ → ℕ
counted below own = min (below + own) (2 ^ 64 - 1)
