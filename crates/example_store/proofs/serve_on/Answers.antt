use Rattle.std.proofs.Common.{Result, Ok, Err, OnOk}
use Rattle.example_store.proofs.serve_on.Goals as goal

ok-then : {E : Type 0} (r : Result (Unit {0}) E) {P Q : Type 0} → OnOk r P → (P → Q) → OnOk r Q
ok-then (Ok unit) holds so = so holds
ok-then (Err fault) holds so = tt

pub returns-in_ok-serve-in-Some : goal.returns-in_ok-serve-in-Some
returns-in_ok-serve-in-Some g c =
    rw c.in-Some.is (ok-then c.answered.result c.answered.ensures (λ whole. record {
      geometry = c.new-geometry.result;
      ran = c.in_ok-serve-in-Some.field-0;
      keeps = c.in_ok-serve-in-Some.ensures;
      whole = whole;
    }))
