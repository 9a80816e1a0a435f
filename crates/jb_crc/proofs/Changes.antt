-- A changed byte changes the checksum: no remainder but 0 becomes 0, since the polynomial has its last term.
use Rattle.std.proofs.Common.{◌≡◌, ℕ, zero, suc, ◌+◌, ◌*◌, ◌/◌, ◌%◌, ◌^◌, ◌<◌, List, ◌∷◌, ◌++◌, length, sym, ap, ◌∙◌, arith, inl, inr}
use Rattle.std.specs.Prelude.{bit_xor}
use Rattle.std.proofs.lemmas.Bool.{cases_lt}
use Rattle.std.proofs.lemmas.Nat.{xor_lt}
use lib.Bits.{xor_zero_r, xor_zero_l, xor_self}
use Rattle.jb_crc.specs.Crc.{polynomial, times_x, times_x_to, crc32c}
use Rattle.jb_crc.proofs.Fits.{times_x-lt}
use Rattle.jb_crc.proofs.Bits.{xor_turn, xor-back, same-from_xor, none-from_xor}
use Rattle.jb_crc.proofs.Pieces.{crc-append, crc-xor}
use Rattle.jb_crc.proofs.Remainders.{times-xor, times-add}

none-from_times_x : (rest : ℕ) → rest < 2 ^ 32 → times_x rest ≡ 0 → rest ≡ 0
none-from_times_x rest small none =
    elim (cases_lt (rest % 2) 1) [
      | inl low ↦
          let even : rest % 2 ≡ 0 = omega arith in
          let half : rest / 2 ≡ 0 = sym (xor_zero_r (rest / 2)) ∙ (rw even at none) in
          omega (arith, even, half)
      | inr high ↦
          let odd : rest % 2 ≡ 1 = omega arith in
          let half : rest / 2 ≡ polynomial = same-from_xor (rest / 2) polynomial (rw odd at none) in
          absurd (let h : ⊥ = omega (arith, half, small) in h)
    ]

none-from_times : (n rest : ℕ) → rest < 2 ^ 32 → times_x_to n rest ≡ 0 → rest ≡ 0
unfolding times_x_to
none-from_times zero rest small none = none
none-from_times (suc n) rest small none = none-from_times_x rest small (none-from_times n (times_x rest) (times_x-lt rest small) none)

-- what two beginnings with the same end differ by
ends-alike : (p q : ℕ) (bytes : List ℕ) → crc32c p bytes ≡ crc32c q bytes → times_x_to (8 * length bytes) (bit_xor p q) ≡ 0
ends-alike p q bytes same =
    none-from_xor _ (crc32c q bytes) (sym (crc-xor (bit_xor p q) q bytes) ∙ ap (λ x. crc32c x bytes) (xor-back p q) ∙ same)

pub one_byte : (begun : ℕ) (before behind : List ℕ) (a b : ℕ) → a < 256 → b < 256
    → crc32c begun (before ++ (a ∷ behind)) ≡ crc32c begun (before ++ (b ∷ behind)) → a ≡ b
unfolding crc32c
one_byte begun before behind a b a_low b_low same =
    let crc = crc32c begun before in
    let p = times_x_to 8 (bit_xor crc a) in
    let q = times_x_to 8 (bit_xor crc b) in
    let ends : crc32c p behind ≡ crc32c q behind = sym (crc-append begun before (a ∷ behind)) ∙ same ∙ crc-append begun before (b ∷ behind) in
    let apart : bit_xor p q ≡ times_x_to 8 (bit_xor a b) =
    sym (times-xor 8 (bit_xor crc a) (bit_xor crc b))
    ∙ ap (times_x_to 8) (xor_turn crc a crc b ∙ ap (λ x. bit_xor x (bit_xor a b)) (xor_self crc) ∙ xor_zero_l (bit_xor a b)) in
    let small : bit_xor a b < 2 ^ 8 = xor_lt 8 a b a_low b_low in
    let all : times_x_to (8 + 8 * length behind) (bit_xor a b) ≡ 0 =
    times-add 8 (8 * length behind) (bit_xor a b) ∙ ap (times_x_to (8 * length behind)) (sym apart) ∙ ends-alike p q behind ends in
    same-from_xor a b (none-from_times (8 + 8 * length behind) (bit_xor a b) (omega (arith, small)) all)
