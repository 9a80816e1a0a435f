-- The parts of a desk's ledger.
use Rattle.std.specs.Prelude.{ℕ}

-- how many parts the ledger of a desk has: one for each of the 2 ^ 61 seats, and one that is never given. The number
-- is written out, since a clause on a share adds to it
abbrev pub ledger_parts : ℕ
ledger_parts = 2305843009213693953
