use Rattle.std.proofs.Common.{◌≡◌, ◌≤◌, ℕ, length, take, drop}
use Rattle.jb_disk.specs.Calls.{steps_of}
use Rattle.jb_disk.specs.History.{replay}
use Rattle.jb_disk.specs.Image.{Image}
use Rattle.jb_disk.specs.CrashWrites.{AreWrites}
use Rattle.jb_disk.specs.Versions.{synced, written}
use Rattle.jb_disk.proofs.sector.until_sync.Given as goal

-- of the calls so far, those from this number on are the writes since the last sync
abbrev pub invariant-loop-i : goal.invariant-loop-i
invariant-loop-i l = record {
  within : l.count ≤ length (take l.i l.calls);
  before : (first : Image) → synced first (steps_of (take l.i l.calls)) ≡ replay first (steps_of (take l.count (take l.i l.calls)));
  behind : (place : ℕ) → written (steps_of (take l.i l.calls)) place ≡ written (steps_of (drop l.count (take l.i l.calls))) place;
  writes : AreWrites (steps_of (drop l.count (take l.i l.calls)));
}
