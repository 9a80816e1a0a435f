-- Triples of counts, and when one is within another.
use Rattle.std.specs.Prelude.{ℕ, ◌≤◌}
use Rattle.jb_board.specs.declared.front.Front.{Front}

-- the counts of what is settled, taken and stopped
abbrev pub front : ℕ → ℕ → ℕ → Front
front settled taken stopped = record { settled = settled; taken = taken; stopped = stopped }

-- what is settled was taken, and what is taken was stopped
abbrev pub InOrder : Front → Type 0
InOrder f = (f.settled ≤ f.taken) × (f.taken ≤ f.stopped)

-- no count of the first is above that of the second
abbrev pub IsWithin : Front → Front → Type 0
IsWithin v w = (v.settled ≤ w.settled) × (v.taken ≤ w.taken) × (v.stopped ≤ w.stopped)
