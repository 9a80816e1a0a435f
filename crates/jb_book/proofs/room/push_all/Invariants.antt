use Rattle.std.proofs.Common.{◌≡◌, ◌+◌, ◌≤◌, ◌++◌, take, length, vec_len, vec_capacity}
use Rattle.jb_book.proofs.room.push_all.Given as goal

abbrev pub invariant-loop-entry : goal.invariant-loop-entry
invariant-loop-entry l = record {
  items : l.trail.items ≡ l.initial.trail.items ++ take l.entry-index l.entries;
  len : vec_len l.trail ≡ vec_len l.initial.trail + l.entry-index;
  room : vec_len l.trail + length l.entries ≤ vec_capacity l.trail + l.entry-index;
  capacity : vec_capacity l.trail ≡ vec_capacity l.initial.trail;
}
