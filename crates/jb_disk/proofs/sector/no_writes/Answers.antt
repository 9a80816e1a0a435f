use Rattle.std.proofs.Common.{◌≡◌, ℕ, zero, suc, List, [], ◌∷◌, ◌++◌, Vec, Global, Bor, refl, ap, arith}
use Rattle.std.proofs.lemmas.Result.{IfOk-from_err}
use Rattle.jb_block.proofs.Refusals.{on-refusal}
use Rattle.jb_disk.specs.CrashWrites.{bytes_of_writes, table_of, writes_at}
use Rattle.jb_disk.proofs.sector.no_writes.Goals as goal

-- one block more without writes
none-more : (table : List (Vec (Bor (List ℕ)) Global)) (last : Vec (Bor (List ℕ)) Global) → last.items ≡ []
    → ((p : ℕ) → writes_at (table_of table) p ≡ []) → (p : ℕ) → writes_at (table_of (table ++ last ∷ [])) p ≡ []
none-more [] last is none zero = ap bytes_of_writes is
none-more [] last is none (suc p) = refl
none-more (first ∷ rest) last is none zero = none zero
none-more (first ∷ rest) last is none (suc p) = none-more rest last is (λ q. none (suc q)) p

pub loop-place-preserved : goal.loop-place-preserved
loop-place-preserved c = record {
  places = omega (arith, c.in_ok-push.ensures.len, c.loop-place.invariant.places);
  none = λ p. rw c.in_ok-push.ensures.items (none-more c.loop-place.table.items c.new.result c.new.ensures.items c.loop-place.invariant.none p);
}

pub returns-in_err-push-clause-places : goal.returns-in_err-push-clause-places
returns-in_err-push-clause-places c = IfOk-from_err c.from_residual.result _ c.from_residual.ensures.0

pub returns-in_err-push-clause-none : goal.returns-in_err-push-clause-none
returns-in_err-push-clause-none c = IfOk-from_err c.from_residual.result _ c.from_residual.ensures.0

pub returns-in_err-push-clause-grows : goal.returns-in_err-push-clause-grows
returns-in_err-push-clause-grows c = on-refusal c.from_residual.result (omega arith)

pub returns-clause-grows : goal.returns-clause-grows
returns-clause-grows c = tt
