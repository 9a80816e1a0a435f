-- Sums of bits: what is added twice is gone.
use Rattle.std.proofs.Common.{◌≡◌, ℕ, sym, ap, ◌∙◌}
use Rattle.std.specs.Prelude.{bit_xor}
use Rattle.std.proofs.lemmas.Nat.{xor_comm}
use lib.Bits.{xor_assoc, xor_zero_r, xor_zero_l, xor_self}

-- the middle two of four change their places
pub xor_turn : (a b c d : ℕ) → bit_xor (bit_xor a b) (bit_xor c d) ≡ bit_xor (bit_xor a c) (bit_xor b d)
xor_turn a b c d =
    xor_assoc a b (bit_xor c d) ∙ ap (bit_xor a) (sym (xor_assoc b c d) ∙ ap (λ x. bit_xor x d) (xor_comm b c) ∙ xor_assoc c b d)
    ∙ sym (xor_assoc a c (bit_xor b d))

pub xor-back : (a b : ℕ) → bit_xor (bit_xor a b) b ≡ a
xor-back a b = xor_assoc a b b ∙ ap (bit_xor a) (xor_self b) ∙ xor_zero_r a

pub same-from_xor : (a b : ℕ) → bit_xor a b ≡ 0 → a ≡ b
same-from_xor a b none = sym (xor-back a b) ∙ ap (λ x. bit_xor x b) none ∙ xor_zero_l b

pub none-from_xor : (a b : ℕ) → bit_xor a b ≡ b → a ≡ 0
none-from_xor a b same = sym (xor-back a b) ∙ ap (λ x. bit_xor x b) same ∙ xor_self b
