use Rattle.std.proofs.Common.{◌≡◌, length}
use Rattle.example_store.proofs.TableLemmas.{Wrote}
use Rattle.example_store.proofs.table.Table.block.Given as goal

-- the first slots are written
abbrev pub invariant-loop-at : goal.invariant-loop-at
invariant-loop-at l = record {
  long : length l.block ≡ 1024;
  are : Wrote l.self.slots l.block l.at;
}
