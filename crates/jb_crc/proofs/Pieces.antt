-- The checksum of bytes by their pieces, and by what it is begun with.
use Rattle.std.proofs.Common.{◌≡◌, ℕ, suc, ◌+◌, ◌*◌, ◌/◌, ◌%◌, ◌^◌, ◌<◌, ◌≤◌, List, [], ◌∷◌, ◌++◌, length, drop, refl, sym, ap, ap₂, ◌∙◌, arith, slice_index}
use Rattle.std.specs.Prelude.{bit_xor}
use Rattle.std.proofs.lemmas.Nat.{xor_comm, xor_shr, xor_mod}
use Rattle.std.proofs.lemmas.List.{drop_all}
use Rattle.std.proofs.Math.Seq.{drop-cons}
use lib.Bits.{xor_assoc, xor_zero_r}
use Rattle.jb_crc.specs.Crc.{times_x_to, crc32c}
use Rattle.jb_crc.proofs.Remainders.{times-xor, times-add, times-split}

pub crc-append : (begun : ℕ) (bytes others : List ℕ) → crc32c begun (bytes ++ others) ≡ crc32c (crc32c begun bytes) others
unfolding crc32c
crc-append begun [] others = refl
crc-append begun (byte ∷ bytes) others = crc-append (times_x_to 8 (bit_xor begun byte)) bytes others

-- the bits of one byte more
abbrev more-bits : (len n : ℕ) → times_x_to (8 * len) (times_x_to 8 n) ≡ times_x_to (8 * suc len) n
more-bits len n =
    sym (times-add 8 (8 * len) n) ∙ ap (λ k. times_x_to k n) (let same : 8 + 8 * len ≡ 8 * suc len = omega arith in same)

-- what is added to the beginning is added to the checksum, times x for each bit
pub crc-xor : (p q : ℕ) (bytes : List ℕ) → crc32c (bit_xor p q) bytes ≡ bit_xor (times_x_to (8 * length bytes) p) (crc32c q bytes)
unfolding crc32c times_x_to
crc-xor p q [] = refl
crc-xor p q (byte ∷ bytes) =
    let next = times_x_to 8 (bit_xor q byte) in
    ap (λ x. crc32c x bytes) (ap (times_x_to 8) (xor_assoc p q byte) ∙ times-xor 8 p (bit_xor q byte))
    ∙ crc-xor (times_x_to 8 p) next bytes
    ∙ ap (λ x. bit_xor x (crc32c next bytes)) (more-bits (length bytes) p)

-- the first byte and the low byte of the beginning go together through all of the bytes; the rest of the beginning goes into the bytes behind
pub peel : (begun byte : ℕ) (bytes : List ℕ) → byte < 256
    → crc32c begun (byte ∷ bytes) ≡ bit_xor (times_x_to (8 * suc (length bytes)) (bit_xor (begun % 2 ^ 8) byte)) (crc32c (begun / 2 ^ 8) bytes)
unfolding crc32c
peel begun byte bytes low =
    let joined = bit_xor (begun % 2 ^ 8) byte in
    let same : byte % 2 ^ 8 ≡ byte = omega arith in
    let none : byte / 2 ^ 8 ≡ 0 = omega arith in
    let joins : bit_xor begun byte % 2 ^ 8 ≡ joined = xor_mod begun byte 8 ∙ ap (bit_xor (begun % 2 ^ 8)) same in
    let moves : bit_xor begun byte / 2 ^ 8 ≡ begun / 2 ^ 8 = xor_shr begun byte 8 ∙ ap (bit_xor (begun / 2 ^ 8)) none ∙ xor_zero_r (begun / 2 ^ 8) in
    ap (λ x. crc32c x bytes)
    (times-split 8 (bit_xor begun byte) ∙ ap₂ (λ x y. bit_xor x (times_x_to 8 y)) moves joins ∙ xor_comm (begun / 2 ^ 8) (times_x_to 8 joined))
    ∙ crc-xor (times_x_to 8 joined) (begun / 2 ^ 8) bytes
    ∙ ap (λ x. bit_xor x (crc32c (begun / 2 ^ 8) bytes)) (more-bits (length bytes) joined)

-- ---- over a list, byte by byte

pub crc-step : (crc next : ℕ) (bytes : List ℕ) (i byte : ℕ) → i < length bytes → byte ≡ slice_index bytes i → next ≡ crc32c crc (byte ∷ [])
    → crc32c next (drop (i + 1) bytes) ≡ crc32c crc (drop i bytes)
unfolding crc32c
crc-step crc next bytes i byte within is more =
    let after : i + 1 ≡ suc i = omega arith in
    rw (after, more, is) (ap (crc32c crc) (sym (drop-cons bytes i 0 within)))

pub crc-end : (crc : ℕ) (bytes : List ℕ) (i : ℕ) → length bytes ≤ i → crc ≡ crc32c crc (drop i bytes)
unfolding crc32c
crc-end crc bytes i past = ap (crc32c crc) (sym (drop_all i bytes past))
