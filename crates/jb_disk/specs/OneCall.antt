-- A call of a disk that may fail, several in a row, and what one makes of a disk in memory.
use Rattle.std.specs.Prelude.{◌≡◌, ◌<◌, ℕ, zero, suc, ◌+◌, ◌-◌, ◌^◌, min, Bool, true, false, List, ◌∷◌}
use Rattle.jb_disk.specs.History.{DiskHistory, Wrote, Synced}

-- a read of a block, a write of bytes to one, or a sync
pub data Called : Type 0 where
  Reads : ℕ → Called
  Writes : ℕ → List ℕ → Called
  Syncs : Called

-- the history of a disk in memory after a call that succeeds: a write or a sync is one step more, and nothing else
-- changes
abbrev pub after_call : Called → DiskHistory → DiskHistory
after_call (Reads place) h = h
after_call (Writes place bytes) h = record h { steps = Wrote place bytes ∷ h.steps }
after_call Syncs h = record h { steps = Synced ∷ h.steps }

-- its history after a call that fails: the count of faults rises by one, and nothing else changes
abbrev pub after_fault : DiskHistory → DiskHistory
after_fault h = record h { faults = min (h.faults + 1) (2 ^ 64 - 1) }

-- what a call makes of a disk in memory, by whether it succeeds; a read does not fail
abbrev pub CallMakes : Called → DiskHistory → DiskHistory → Bool → Type 0
CallMakes call old new true = new ≡ after_call call old
CallMakes (Reads place) old new false = ⊥
CallMakes (Writes place bytes) old new false = new ≡ after_fault old
CallMakes Syncs old new false = new ≡ after_fault old

module _ {D : Type 0} (own : Called → D → D → Bool → Type 0) (call : ℕ → Called) where
  -- the first n of some calls were made, one after the other, and all of them succeeded
  abbrev pub AllMade : ℕ → D → D → Type 0
  AllMade zero old new = new ≡ old
  AllMade (suc n) old new = (mid : D) × AllMade n old mid × own (call n) mid new true

  -- the first n of some calls were made up to the first that fails, by whether none does
  abbrev pub AreMade : ℕ → D → D → Bool → Type 0
  AreMade n old new true = AllMade n old new
  AreMade n old new false = (k : ℕ) × (k < n) × (mid : D) × AllMade k old mid × own (call k) mid new false
