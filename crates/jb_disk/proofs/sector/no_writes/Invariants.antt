use Rattle.std.proofs.Common.{◌≡◌, ℕ, [], length}
use Rattle.jb_disk.specs.CrashWrites.{table_of, writes_at}
use Rattle.jb_disk.proofs.sector.no_writes.Given as goal

abbrev pub invariant-loop-place : goal.invariant-loop-place
invariant-loop-place l = record {
  places : length l.table.items ≡ l._place;
  none : (p : ℕ) → writes_at (table_of l.table.items) p ≡ [];
}
