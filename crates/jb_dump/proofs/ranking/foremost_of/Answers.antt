use Rattle.std.proofs.Common.{◌≡◌, ℕ, zero, suc, Bool, true, false, List, [], ◌∷◌, length, take, refl, ap, arith, length-take, take-take, nat_lt, if◌then◌else◌}
use Rattle.jb_dump.specs.MostWritten.{ranked, ranked_among}
use Rattle.jb_dump.proofs.ranking.foremost_of.Goals as goal

take-behind : {A : Type 0} (n : ℕ) (x : A) (xs : List A) → take n (x ∷ take n xs) ≡ take n (x ∷ xs)
take-behind zero x xs = refl
take-behind (suc n) x xs = ap (λ rest. x ∷ rest) (take-take n (suc n) xs (omega arith))

-- what comes after the first rows does not matter for the first ones of them and one more
take-among : (n : ℕ) (row : ℕ × ℕ) (rows : List (ℕ × ℕ)) → take n (ranked_among row (take n rows)) ≡ take n (ranked_among row rows)
take-among zero row rows = refl
take-among (suc n) row [] = refl
take-among (suc n) row (other ∷ rows) = by (take-among n row rows) (nat_lt other.1 row.1)
  where
    by : take n (ranked_among row (take n rows)) ≡ take n (ranked_among row rows) → (test : Bool) → take (suc n) (if test then row ∷ other ∷ take n rows else other ∷ ranked_among row (take n rows)) ≡ take (suc n) (if test then row ∷ other ∷ rows else other ∷ ranked_among row rows)
    by less true = ap (λ rest. row ∷ rest) (take-behind n other rows)
    by less false = ap (λ rest. other ∷ rest) less

-- nor for the first ones of them and more
take-ranked : (n : ℕ) (rows more : List (ℕ × ℕ)) → take n (ranked (take n rows) more) ≡ take n (ranked rows more)
take-ranked n rows [] = take-take n n rows (omega arith)
take-ranked n rows (row ∷ more) = rw (← take-ranked n (ranked_among row (take n rows)) more, take-among n row rows) (take-ranked n (ranked_among row rows) more)

pub loop-row-preserved : goal.loop-row-preserved
loop-row-preserved c =
    let rows = c.loop-row.rows.items in
    let placed = c.in_ok-place_among.ensures in
    record {
      first = rw (placed, take-ranked 10 (ranked_among c.in-Some.row rows) c.pop_first.new.self.entries) (rw c.in-Some.ensures.removal at c.loop-row.invariant.first);
      few = (let most = ap length placed in omega (arith, most, length-take 10 (ranked_among c.in-Some.row rows)));
    }
