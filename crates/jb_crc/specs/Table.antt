-- What a byte adds to a checksum when others follow it.
use Rattle.std.specs.Prelude.{ℕ, zero, suc, ◌*◌, List, [], ◌∷◌}
use Rattle.jb_crc.specs.Crc.{times_x_to}

-- this many numbers from the first on, each times x^n
unfoldable pub remainders : ℕ → ℕ → ℕ → List ℕ
remainders n zero first = []
remainders n (suc count) first = times_x_to n first ∷ remainders n count (suc first)

-- each number below 256 times x^(8 bytes): what a byte adds that is this many from the end, itself counted
abbrev pub table : ℕ → List ℕ
table bytes = remainders (8 * bytes) 256 0
