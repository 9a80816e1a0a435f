use Rattle.std.proofs.Common.{◌≡◌, ℕ, ◌^◌, ◌≤◌, drop}
use Rattle.jb_deck.specs.Done.{Follow, least_after}
use Rattle.jb_book.proofs.follow.past_of.Given as goal

abbrev pub invariant-loop-entry : goal.invariant-loop-entry
invariant-loop-entry l = record {
  to : (past : ℕ) → Follow l.first l.least past l.entries → Follow l.past l.next past (drop l.entry-index l.entries);
  from : (past : ℕ) → Follow l.past l.next past (drop l.entry-index l.entries) → Follow l.first l.least past l.entries;
  last : least_after l.least l.entries ≡ least_after l.next (drop l.entry-index l.entries);
  narrow : l.next ≤ 2 ^ 32;
}
