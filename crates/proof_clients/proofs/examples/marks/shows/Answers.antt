use Rattle.std.proofs.Common.{refl, arith}
use Rattle.proof_clients.specs.ExampleMarks.{entry, two_entries, with_entries}
use Rattle.proof_clients.proofs.examples.marks.shows.Goals as goal

pub returns-clause-meets_first : goal.returns-clause-meets_first
returns-clause-meets_first c m = record {
  entry = entry 7 0 1;
  marked = record { at = 0; mark = with_entries two_entries m; stands = refl; has = record { place = 0; stands = refl } };
  from = omega arith;
  to = omega arith;
  is_number = refl;
}

pub returns-clause-meets : goal.returns-clause-meets
returns-clause-meets c m = record {
  entry = entry 8 1 3;
  marked = record { at = 0; mark = with_entries two_entries m; stands = refl; has = record { place = 1; stands = refl } };
  from = omega arith;
  to = omega arith;
  is_number = refl;
}
