-- A checksum has 32 bits, as what it is begun with.
use Rattle.std.proofs.Common.{◌≡◌, ℕ, zero, suc, ◌/◌, ◌%◌, ◌^◌, ◌<◌, List, [], ◌∷◌, arith, inl, inr, slice_index}
use Rattle.std.specs.Prelude.{bit_xor}
use Rattle.std.proofs.lemmas.Bool.{cases_lt}
use Rattle.std.proofs.lemmas.Nat.{xor_lt}
use Rattle.jb_crc.specs.Crc.{polynomial, times_x, times_x_to, crc32c}

pub times_x-lt : (rest : ℕ) → rest < 2 ^ 32 → times_x rest < 2 ^ 32
times_x-lt rest small =
    elim (cases_lt (rest % 2) 1) [
      | inl low ↦ let even : rest % 2 ≡ 0 = omega arith in rw even (xor_lt 32 (rest / 2) 0 (omega arith) (omega arith))
      | inr high ↦ let odd : rest % 2 ≡ 1 = omega arith in rw odd (xor_lt 32 (rest / 2) polynomial (omega arith) (omega arith))
    ]

times-lt : (n rest : ℕ) → rest < 2 ^ 32 → times_x_to n rest < 2 ^ 32
unfolding times_x_to
times-lt zero rest small = small
times-lt (suc n) rest small = times-lt n (times_x rest) (times_x-lt rest small)

pub crc-lt : (begun : ℕ) (bytes : List ℕ) → begun < 2 ^ 32 → ((i : ℕ) → slice_index bytes i < 256) → crc32c begun bytes < 2 ^ 32
unfolding crc32c
crc-lt begun [] small are = small
crc-lt begun (byte ∷ bytes) small are =
    let first : byte < 256 = are 0 in
    crc-lt (times_x_to 8 (bit_xor begun byte)) bytes (times-lt 8 (bit_xor begun byte) (xor_lt 32 begun byte small (omega (arith, first)))) (λ i. are (suc i))
