use Rattle.std.proofs.Common.{◌≡◌, ◌≤◌, [], length, take}
use Rattle.jb_dump.specs.MostWritten.{ranked}
use Rattle.jb_dump.proofs.ranking.foremost_of.Given as goal

-- with the rows that are left, the first are those of all
abbrev pub invariant-loop-row : goal.invariant-loop-row
invariant-loop-row l = record {
  first : take 10 (ranked l.rows.items l.homes.entries) ≡ take 10 (ranked [] l.fn.homes.entries);
  few : length l.rows.items ≤ 10;
}

abbrev pub decreases-loop-row : goal.decreases-loop-row
decreases-loop-row l = length l.homes.entries
