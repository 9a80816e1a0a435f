-- Eight bytes at once: what each adds, by how many of them follow it.
use Rattle.std.proofs.Common.{◌≡◌, ℕ, suc, ◌/◌, ◌%◌, ◌^◌, ◌<◌, ◌≤◌, List, [], ◌∷◌, length, take, drop, ap, ◌∙◌, arith, slice_index}
use Rattle.std.specs.Prelude.{bit_xor}
use Rattle.std.proofs.Math.Seq.{drop-cons}
use lib.Bits.{xor_zero_r}
use Rattle.jb_crc.specs.Crc.{times_x_to, crc32c}
use Rattle.jb_crc.proofs.Pieces.{peel}

pub eight : (c b0 b1 b2 b3 b4 b5 b6 b7 : ℕ) → c < 2 ^ 32 → b0 < 256 → b1 < 256 → b2 < 256 → b3 < 256 → b4 < 256 → b5 < 256 → b6 < 256 → b7 < 256
    → crc32c c (b0 ∷ b1 ∷ b2 ∷ b3 ∷ b4 ∷ b5 ∷ b6 ∷ b7 ∷ [])
    ≡ bit_xor (times_x_to 64 (bit_xor (c % 2 ^ 8) b0))
    (bit_xor (times_x_to 56 (bit_xor (c / 2 ^ 8 % 2 ^ 8) b1))
    (bit_xor (times_x_to 48 (bit_xor (c / 2 ^ 16 % 2 ^ 8) b2))
    (bit_xor (times_x_to 40 (bit_xor (c / 2 ^ 24 % 2 ^ 8) b3))
    (bit_xor (times_x_to 32 b4) (bit_xor (times_x_to 24 b5) (bit_xor (times_x_to 16 b6) (times_x_to 8 b7)))))))
unfolding crc32c
eight c b0 b1 b2 b3 b4 b5 b6 b7 small h0 h1 h2 h3 h4 h5 h6 h7 =
    let two : c / 2 ^ 8 / 2 ^ 8 ≡ c / 2 ^ 16 = omega arith in
    let three : c / 2 ^ 16 / 2 ^ 8 ≡ c / 2 ^ 24 = omega arith in
    let four : c / 2 ^ 24 / 2 ^ 8 ≡ 0 = omega arith in
    peel c b0 (b1 ∷ b2 ∷ b3 ∷ b4 ∷ b5 ∷ b6 ∷ b7 ∷ []) h0
    ∙ ap (bit_xor (times_x_to 64 (bit_xor (c % 2 ^ 8) b0)))
    (peel (c / 2 ^ 8) b1 (b2 ∷ b3 ∷ b4 ∷ b5 ∷ b6 ∷ b7 ∷ []) h1
    ∙ ap (bit_xor (times_x_to 56 (bit_xor (c / 2 ^ 8 % 2 ^ 8) b1)))
    (ap (λ x. crc32c x (b2 ∷ b3 ∷ b4 ∷ b5 ∷ b6 ∷ b7 ∷ [])) two
    ∙ peel (c / 2 ^ 16) b2 (b3 ∷ b4 ∷ b5 ∷ b6 ∷ b7 ∷ []) h2
    ∙ ap (bit_xor (times_x_to 48 (bit_xor (c / 2 ^ 16 % 2 ^ 8) b2)))
    (ap (λ x. crc32c x (b3 ∷ b4 ∷ b5 ∷ b6 ∷ b7 ∷ [])) three
    ∙ peel (c / 2 ^ 24) b3 (b4 ∷ b5 ∷ b6 ∷ b7 ∷ []) h3
    ∙ ap (bit_xor (times_x_to 40 (bit_xor (c / 2 ^ 24 % 2 ^ 8) b3)))
    (ap (λ x. crc32c x (b4 ∷ b5 ∷ b6 ∷ b7 ∷ [])) four
    ∙ peel 0 b4 (b5 ∷ b6 ∷ b7 ∷ []) h4
    ∙ ap (bit_xor (times_x_to 32 b4))
    (peel 0 b5 (b6 ∷ b7 ∷ []) h5
    ∙ ap (bit_xor (times_x_to 24 b5))
    (peel 0 b6 (b7 ∷ []) h6 ∙ ap (bit_xor (times_x_to 16 b6)) (peel 0 b7 [] h7 ∙ xor_zero_r (times_x_to 8 b7))))))))

-- the first of those that are left, and the others
take_next : (n i : ℕ) (bytes : List ℕ) → i < length bytes → take (suc n) (drop i bytes) ≡ slice_index bytes i ∷ take n (drop (suc i) bytes)
take_next n i bytes within = ap (take (suc n)) (drop-cons bytes i 0 within)

pub take_eight : (bytes : List ℕ) → 8 ≤ length bytes
    → take 8 bytes ≡ slice_index bytes 0 ∷ slice_index bytes 1 ∷ slice_index bytes 2 ∷ slice_index bytes 3 ∷ slice_index bytes 4 ∷ slice_index bytes 5
    ∷ slice_index bytes 6 ∷ slice_index bytes 7 ∷ []
take_eight bytes within =
    take_next 7 0 bytes (omega arith)
    ∙ ap (λ l. slice_index bytes 0 ∷ l) (take_next 6 1 bytes (omega arith)
    ∙ ap (λ l. slice_index bytes 1 ∷ l) (take_next 5 2 bytes (omega arith)
    ∙ ap (λ l. slice_index bytes 2 ∷ l) (take_next 4 3 bytes (omega arith)
    ∙ ap (λ l. slice_index bytes 3 ∷ l) (take_next 3 4 bytes (omega arith)
    ∙ ap (λ l. slice_index bytes 4 ∷ l) (take_next 2 5 bytes (omega arith)
    ∙ ap (λ l. slice_index bytes 5 ∷ l) (take_next 1 6 bytes (omega arith)
    ∙ ap (λ l. slice_index bytes 6 ∷ l) (take_next 0 7 bytes (omega arith))))))))
