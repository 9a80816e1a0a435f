use Rattle.std.proofs.Common.{length, ◌-◌, ◌≡◌, ◌≤◌, ◌++◌, take, drop}
use Rattle.jb_dump.specs.MostWritten.{ranked_among}
use Rattle.jb_dump.proofs.ranking.rank_of.Given as goal

-- the rows up to here come before it
abbrev pub invariant-loop-at : goal.invariant-loop-at
invariant-loop-at l = record {
  within : l.at ≤ length l.rows;
  before : ranked_among l.row l.rows ≡ take l.at l.rows ++ ranked_among l.row (drop l.at l.rows);
}

abbrev pub decreases-loop-at : goal.decreases-loop-at
decreases-loop-at l = length l.rows - l.at
