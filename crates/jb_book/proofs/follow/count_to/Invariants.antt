use Rattle.std.proofs.Common.{◌≡◌, drop}
use Rattle.jb_book.specs.Account.{trail_from}
use Rattle.jb_book.proofs.follow.count_to.Given as goal

abbrev pub invariant-loop-entry : goal.invariant-loop-entry
invariant-loop-entry l = record {
  counts : l.count ≡ l.entry-index;
  rest : trail_from l.past l.entries ≡ trail_from l.past (drop l.entry-index l.entries);
}
