-- CRC-32C: the remainder of a message by the Castagnoli polynomial, with the lowest bit of each byte first.
use Rattle.std.specs.Prelude.{ℕ, zero, suc, ◌/◌, ◌%◌, List, [], ◌∷◌, bit_xor, nat_eq, if◌then◌else◌}

-- x^32 + x^28 + x^27 + x^26 + x^25 + x^23 + x^22 + x^20 + x^19 + x^18 + x^14 + x^13 + x^11 + x^10 + x^9 + x^8 + x^6 +
-- 1, without its first term: bit i of a number stands for x^(31 - i)
abbrev pub polynomial : ℕ
polynomial = 0x82F63B78

-- a remainder times x: each bit moves down by one place, and where x^32 comes to be, the polynomial is subtracted
abbrev pub times_x : ℕ → ℕ
times_x rest = bit_xor (rest / 2) (if nat_eq (rest % 2) 1 then polynomial else 0)

-- a remainder times x^n
unfoldable pub times_x_to : ℕ → ℕ → ℕ
times_x_to zero rest = rest
times_x_to (suc n) rest = times_x_to n (times_x rest)

-- the checksum of these bytes, begun with a number: each byte is added to what there is, and the sum multiplied by x^8
unfoldable pub crc32c : ℕ → List ℕ → ℕ
crc32c begun [] = begun
crc32c begun (byte ∷ bytes) = crc32c (times_x_to 8 (bit_xor begun byte)) bytes
