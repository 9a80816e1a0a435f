-- The first bytes of a block of which some are kept and the others are zeros.
use Rattle.std.proofs.Common.{◌≡◌, refl, ap, sym, ℕ, zero, suc, ◌+◌, ◌-◌, ◌≤◌, ◌<◌, min, List, [], ◌∷◌, ◌++◌, length, take, drop, replicate, get_or, arith, length-append}
use Rattle.std.proofs.lemmas.List.{take-replicate, length-replicate}
use Rattle.jb_block.specs.Fields.{AreBytes}

-- zeros over which so many of the bytes are written, up to n of them
pub take-padded : (n more k : ℕ) (bytes : List ℕ) → n ≤ length bytes + more → k ≡ min (length bytes) n → take k bytes ++ drop k (replicate n 0) ≡ take n (bytes ++ replicate more 0)
take-padded n more k [] long is = let none : k ≡ 0 = omega arith in rw none (sym (take-replicate n more 0 (omega arith)))
take-padded zero more k (b ∷ bytes) long is = let none : k ≡ 0 = omega arith in rw none refl
take-padded (suc n) more zero (b ∷ bytes) long is = absurd (omega arith)
take-padded (suc n) more (suc k) (b ∷ bytes) long is = ap (λ bs. b ∷ bs) (take-padded n more k bytes (omega arith) (omega arith))

-- bytes and the zeros that fill them up are as many as they are to be
pub length-filled : (len : ℕ) (bytes : List ℕ) → length bytes ≤ len → length (bytes ++ replicate (len - length bytes) 0) ≡ len
length-filled len bytes fits = simp (length-append, length-replicate) (omega arith)

zero-byte : (n i : ℕ) → get_or (replicate n 0) i 0 < 256
zero-byte zero i = omega arith
zero-byte (suc n) zero = omega arith
zero-byte (suc n) (suc i) = zero-byte n i

-- bytes and the zeros that fill them up are bytes
pub filled-bytes : (n : ℕ) (bytes : List ℕ) → AreBytes bytes → AreBytes (bytes ++ replicate n 0)
filled-bytes n [] fit i = zero-byte n i
filled-bytes n (b ∷ bytes) fit zero = fit 0
filled-bytes n (b ∷ bytes) fit (suc i) = filled-bytes n bytes (λ k. fit (suc k)) i
