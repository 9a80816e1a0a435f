use Rattle.std.proofs.Common.{refl, arith}
use Rattle.proof_clients.specs.ExampleMarks.{entry, two_entries}
use Rattle.proof_clients.specs.ExampleNotes.{noted_at}
use Rattle.proof_clients.proofs.examples.notes.is_in_notes.Goals as goal

pub returns-clause-meets_first : goal.returns-clause-meets_first
returns-clause-meets_first c = record {
  at = 1;
  note = noted_at 9 two_entries;
  stands = refl;
  entry = entry 7 0 1;
  has = record { place = 0; stands = refl };
  from = omega arith;
  to = omega arith;
  is_number = refl;
}

pub returns-clause-meets : goal.returns-clause-meets
returns-clause-meets c = record {
  at = 1;
  note = noted_at 9 two_entries;
  stands = refl;
  entry = entry 8 1 3;
  has = record { place = 1; stands = refl };
  from = omega arith;
  to = omega arith;
  is_number = refl;
}
