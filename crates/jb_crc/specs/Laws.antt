-- What holds of every checksum.
use Rattle.std.specs.Prelude.{◌≡◌, ℕ, ◌<◌, List, [], ◌∷◌, ◌++◌}
use Rattle.std.specs.Int.{w32, bit_not}
use Rattle.jb_crc.specs.Crc.{crc32c}

-- the check value by which CRC-32C is known: of the digits 1 to 9 in ASCII, begun with ones, and inverted at the end
abbrev pub HasCheckValue : Type 0
HasCheckValue = bit_not w32 (crc32c 0xFFFFFFFF (49 ∷ 50 ∷ 51 ∷ 52 ∷ 53 ∷ 54 ∷ 55 ∷ 56 ∷ 57 ∷ [])) ≡ 0xE3069283

-- the checksum of bytes that follow others is begun with the checksum of those
abbrev pub TakesPieces : Type 0
TakesPieces = (begun : ℕ) (bytes others : List ℕ) → crc32c begun (bytes ++ others) ≡ crc32c (crc32c begun bytes) others

-- bytes that differ in one place have different checksums
abbrev pub SeesOneByte : Type 0
SeesOneByte =
    (begun : ℕ) (before behind : List ℕ) (a b : ℕ) → a < 256 → b < 256
    → crc32c begun (before ++ (a ∷ behind)) ≡ crc32c begun (before ++ (b ∷ behind)) → a ≡ b
