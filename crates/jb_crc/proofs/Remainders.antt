-- Remainders by the polynomial: a sum of two is multiplied as each of them is, and a low bit of 0 is only moved.
use Rattle.std.proofs.Common.{◌≡◌, ℕ, zero, suc, ◌+◌, ◌*◌, ◌/◌, ◌%◌, ◌^◌, ◌<◌, refl, sym, ap, ap₂, ◌∙◌, arith}
use Rattle.std.specs.Prelude.{bit_xor, nat_eq, if◌then◌else◌}
use Rattle.std.proofs.lemmas.Nat.{xor_shr, xor_mod, shr_split, mod_below, pow_pos}
use lib.Bits.{xor_zero_r, xor_shifted}
use native.Mathlib.Nat.{zero-add, suc-add, pow-suc, mul_assoc}
use Rattle.jb_crc.specs.Crc.{polynomial, times_x, times_x_to}
use Rattle.jb_crc.proofs.Bits.{xor_turn}

-- what is subtracted, by the bit that is moved out
abbrev subtracted : ℕ → ℕ
subtracted bit = if nat_eq bit 1 then polynomial else 0

subtracted-xor : (i j : ℕ) → i < 2 → j < 2 → subtracted (bit_xor i j) ≡ bit_xor (subtracted i) (subtracted j)
subtracted-xor zero zero i_low j_low = refl
subtracted-xor zero (suc zero) i_low j_low = refl
subtracted-xor (suc zero) zero i_low j_low = refl
subtracted-xor (suc zero) (suc zero) i_low j_low = refl
subtracted-xor (suc (suc i)) j i_low j_low = absurd (omega arith)
subtracted-xor i (suc (suc j)) i_low j_low = absurd (omega arith)

times_x-xor : (a b : ℕ) → times_x (bit_xor a b) ≡ bit_xor (times_x a) (times_x b)
times_x-xor a b =
    ap₂ bit_xor (xor_shr a b 1) (ap subtracted (xor_mod a b 1) ∙ subtracted-xor (a % 2) (b % 2) (omega arith) (omega arith))
    ∙ xor_turn (a / 2) (b / 2) (subtracted (a % 2)) (subtracted (b % 2))

pub times-xor : (n a b : ℕ) → times_x_to n (bit_xor a b) ≡ bit_xor (times_x_to n a) (times_x_to n b)
unfolding times_x_to
times-xor zero a b = refl
times-xor (suc n) a b = ap (times_x_to n) (times_x-xor a b) ∙ times-xor n (times_x a) (times_x b)

pub times-add : (m n a : ℕ) → times_x_to (m + n) a ≡ times_x_to n (times_x_to m a)
unfolding times_x_to
times-add zero n a = ap (λ k. times_x_to k a) (zero-add n)
times-add (suc m) n a = ap (λ k. times_x_to k a) (suc-add m n) ∙ times-add m n (times_x a)

-- ---- the low bits alone are multiplied, and the others move down

times_x-even : (h : ℕ) → times_x (h * 2) ≡ h
times_x-even h =
    let half : h * 2 / 2 ≡ h = omega arith in
    let even : h * 2 % 2 ≡ 0 = omega arith in
    rw (half, even) (xor_zero_r h)

times-moved : (n h : ℕ) → times_x_to n (h * 2 ^ n) ≡ h
unfolding times_x_to
times-moved zero h = omega arith
times-moved (suc n) h =
    let twice : h * 2 ^ suc n ≡ h * 2 ^ n * 2 = ap (λ x. h * x) (pow-suc 2 n) ∙ sym (mul_assoc h (2 ^ n) 2) in
    ap (λ x. times_x_to n (times_x x)) twice ∙ ap (times_x_to n) (times_x-even (h * 2 ^ n)) ∙ times-moved n h

pub times-split : (n a : ℕ) → times_x_to n a ≡ bit_xor (a / 2 ^ n) (times_x_to n (a % 2 ^ n))
times-split n a =
    let low : a % 2 ^ n < 2 ^ n = mod_below a (2 ^ n) (pow_pos n) in
    ap (times_x_to n) (sym (xor_shifted (a / 2 ^ n) n (a % 2 ^ n) low ∙ shr_split a n))
    ∙ times-xor n (a / 2 ^ n * 2 ^ n) (a % 2 ^ n)
    ∙ ap (λ x. bit_xor x (times_x_to n (a % 2 ^ n))) (times-moved n (a / 2 ^ n))
