use Rattle.std.proofs.Common.{arith}
use Rattle.jb_journal.proofs.room.Room.take.Goals as goal

pub returns : goal.returns
returns g c = record {
  places = record { none = c.in_ok-places.ensures.items; empty = c.in_ok-places.ensures.len; room = c.in_ok-places.ensures.capacity };
  lefts = record { none = c.in_ok-lefts.ensures.items; empty = c.in_ok-lefts.ensures.len; room = omega (arith, c.in_ok-lefts.ensures.capacity) };
  answers = record { none = c.in_ok-answers.ensures.items; empty = c.in_ok-answers.ensures.len; room = c.in_ok-answers.ensures.capacity };
}
