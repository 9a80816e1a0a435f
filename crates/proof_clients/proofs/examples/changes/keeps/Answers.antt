use Rattle.std.proofs.Common.{◌≡◌, ℕ, zero, suc, ◌<◌, ◌≤◌, List, get_or, refl, ap, arith}
use Rattle.jb_disk.specs.Image.{block}
use Rattle.proof_clients.specs.ExampleChanges.{five_blocks}
use Rattle.proof_clients.proofs.examples.changes.keeps.Goals as goal

one-before : (old new : List ℕ) (p : ℕ) → 1 ≤ p → p < 2 → block (five_blocks 5 1 new new 4) p ≡ block (five_blocks 5 1 old old 4) p
one-before old new zero some below = absurd (omega (arith, some))
one-before old new (suc zero) some below = refl
one-before old new (suc (suc p)) some below = absurd (omega (arith, below))

one-after : (old new : List ℕ) (p : ℕ) → 4 ≤ p → block (five_blocks 5 1 new new 4) p ≡ block (five_blocks 5 1 old old 4) p
one-after old new zero behind = absurd (omega (arith, behind))
one-after old new (suc zero) behind = absurd (omega (arith, behind))
one-after old new (suc (suc zero)) behind = absurd (omega (arith, behind))
one-after old new (suc (suc (suc zero))) behind = absurd (omega (arith, behind))
one-after old new (suc (suc (suc (suc p)))) behind = refl

pub returns-clause-meets : goal.returns-clause-meets
returns-clause-meets c d old new at = record {
  rest = refl;
  before = λ p some below. one-before old new p some (omega (arith, at.first, below));
  after = λ p behind. one-after old new p (omega (arith, at.past, behind));
}

pub returns-clause-not_before : goal.returns-clause-not_before
returns-clause-not_before c d at keeps =
    let same : 2 ≡ 1 = ap (λ (l : List ℕ). get_or l 0 0) (keeps.before 1 (omega arith) (omega (arith, at.first))) in
    omega (arith, same)

pub returns-clause-not_after : goal.returns-clause-not_after
returns-clause-not_after c d at keeps =
    let same : 7 ≡ 4 = ap (λ (l : List ℕ). get_or l 0 0) (keeps.after 4 (omega (arith, at.past))) in
    omega (arith, same)

pub returns-clause-not_rest : goal.returns-clause-not_rest
returns-clause-not_rest c d at keeps = let same : 6 ≡ 5 = ap (λ (l : List ℕ). get_or l 0 0) keeps.rest in omega (arith, same)
