-- Quotients rounded up.
use Rattle.std.proofs.Common.{◌≡◌, ℕ, ◌+◌, ◌*◌, ◌≤◌, inl, inr, arith, mul-le-mul_right, le-mul_of_pos_right, add-mul}
use Rattle.std.specs.Int.{div_ceil}
use Rattle.std.proofs.lemmas.Bool.{cases_lt}
use Rattle.std.proofs.lemmas.Grind.{div_ceil_times}

-- so many times t reach a
pub ceil-reaches : (a t : ℕ) → 1 ≤ t → a ≤ div_ceil a t * t
ceil-reaches a t one = (div_ceil_times a t one).0

-- and no fewer times do
pub ceil-least : (a m t : ℕ) → 1 ≤ t → a ≤ m * t → div_ceil a t ≤ m
ceil-least a m t one reach =
    elim (cases_lt m (div_ceil a t)) [
      | inl more ↦
          let next : m + 1 ≤ div_ceil a t = omega arith in
          let times : (m + 1) * t ≤ div_ceil a t * t = mul-le-mul_right t next in
          let split : (m + 1) * t ≡ m * t + 1 * t = add-mul m 1 t in
          absurd (omega (arith, (div_ceil_times a t one).1))
      | inr within ↦ within
    ]

pub ceil-mono : (a b t : ℕ) → 1 ≤ t → a ≤ b → div_ceil a t ≤ div_ceil b t
ceil-mono a b t one le = ceil-least a (div_ceil b t) t one (omega (arith, ceil-reaches b t one))

pub ceil-self : (a t : ℕ) → 1 ≤ t → div_ceil a t ≤ a
ceil-self a t one = ceil-least a a t one (le-mul_of_pos_right a one)

-- as many as there were, where these have room
pub ceil-same : (a b t : ℕ) → 1 ≤ t → a ≤ b → b ≤ div_ceil a t * t → div_ceil a t ≡ div_ceil b t
ceil-same a b t one more room = omega (arith, ceil-mono a b t one more, ceil-least b (div_ceil a t) t one room)
