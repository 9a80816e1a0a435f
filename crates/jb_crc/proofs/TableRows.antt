-- What a table has at a byte.
use Rattle.std.proofs.Common.{◌≡◌, ℕ, zero, suc, ◌+◌, ◌*◌, ◌/◌, ◌%◌, ◌^◌, ◌<◌, List, [], ◌∷◌, sym, ap, ◌∙◌, arith, slice_index}
use Rattle.std.specs.Prelude.{bit_xor}
use native.Mathlib.Nat.{zero-add, add-zero}
use Rattle.jb_crc.specs.Crc.{times_x_to, crc32c}
use Rattle.jb_crc.specs.Table.{remainders, table}
use Rattle.jb_crc.proofs.Pieces.{peel}

remainder_at : (n count first i : ℕ) → i < count → slice_index (remainders n count first) i ≡ times_x_to n (first + i)
unfolding remainders
remainder_at n zero first i low = absurd (omega arith)
remainder_at n (suc count) first zero low = ap (times_x_to n) (sym (add-zero first))
remainder_at n (suc count) first (suc i) low =
    remainder_at n count (suc first) i (omega arith) ∙ ap (times_x_to n) (let same : suc first + i ≡ first + suc i = omega arith in same)

-- at an index that is known by a sum of bytes
pub row_at : (rows : List ℕ) (len i sum : ℕ) → rows ≡ table len → i ≡ sum → i < 256 → slice_index rows i ≡ times_x_to (8 * len) sum
row_at rows len i sum is same low =
    rw is (remainder_at (8 * len) 256 0 i low ∙ ap (times_x_to (8 * len)) (zero-add i ∙ same))

-- one byte by its table
pub one_more : (crc byte : ℕ) (rows : List ℕ) (i : ℕ) → byte < 256 → rows ≡ table 1 → i ≡ bit_xor (crc % 2 ^ 8) byte → i < 256
    → bit_xor (slice_index rows i) (crc / 2 ^ 8) ≡ crc32c crc (byte ∷ [])
unfolding crc32c
one_more crc byte rows i low is same within =
    ap (λ x. bit_xor x (crc / 2 ^ 8)) (row_at rows 1 i (bit_xor (crc % 2 ^ 8) byte) is same within) ∙ sym (peel crc byte [] low)
