use Rattle.std.proofs.Common.{◌≡◌, ◌≤◌, All, vec_len, vec_capacity}
use Rattle.jb_journal.specs.Run.{HasNotWorked}
use Rattle.jb_journal.proofs.room.places_of.Given as goal

-- so many places are there, with nothing in them, and the room is the same
abbrev pub invariant-loop : goal.invariant-loop
invariant-loop g l = record {
  number : vec_len l.places ≡ l.counter;
  room : l.workers ≤ vec_capacity l.places;
  none : All HasNotWorked l.places.items;
}
