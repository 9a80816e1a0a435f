use Rattle.std.proofs.Common.{◌≡◌, length}
use Rattle.example_store.proofs.TableLemmas.{Freed}
use Rattle.example_store.proofs.table.Table.delete.Given as goal

-- the first slots have not the key
abbrev pub invariant-loop-at : goal.invariant-loop-at
invariant-loop-at l = record {
  long : length l.self.slots ≡ 64;
  freed : Freed l.key l.initial.self.slots l.self.slots l.at;
}
