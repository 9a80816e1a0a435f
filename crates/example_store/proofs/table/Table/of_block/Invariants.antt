use Rattle.std.proofs.Common.{◌≡◌, ◌++◌, length, take, drop, ◌-◌, ◌*◌}
use Rattle.example_store.specs.Tables.{slots_in}
use Rattle.example_store.proofs.table.Table.of_block.Given as goal

-- the slots that are read, and those that are left in the block, are all
abbrev pub invariant-loop-at : goal.invariant-loop-at
invariant-loop-at l = record {
  long : length l.slots ≡ 64;
  are : take l.at l.slots ++ slots_in (64 - l.at) (drop (16 * l.at) l.block) ≡ slots_in 64 l.block;
}
