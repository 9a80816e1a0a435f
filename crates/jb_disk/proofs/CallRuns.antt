-- How a run of calls goes on, for any disk: what the crates above cite for each call and each loop.
use Rattle.std.proofs.Common.{◌≤◌, ℕ, inl, inr, ⊎_elim, arith}
use Rattle.jb_disk.specs.Image.{Image}
use Rattle.jb_disk.specs.Time.{Goes, LeavesOnly}

-- before the first call
pub started : {D : Type 0} (moment : D → ℕ) (left_since : D → ℕ → Image → Type 0) (old : D) (P : Image → Type 0)
    → ((c : Image) → left_since old (moment old) c → P c) → LeavesOnly moment left_since old old P
started moment left_since old P here = record { later = omega arith; each = here; before = λ t c earlier left. inl left }

-- one call more, after which each image that a crash may leave has P
pub steps_on : {D : Type 0} (may_leave : D → Image → Type 0) (moment : D → ℕ) (left_since : D → ℕ → Image → Type 0) (step : Image → Image → Type 0) (old mid new : D) (P : Image → Type 0)
    → LeavesOnly moment left_since old mid P → Goes may_leave moment left_since step mid new → ((c : Image) → may_leave new c → P c) → LeavesOnly moment left_since old new P
steps_on may_leave moment left_since step old mid new P so_far call here = record {
  later = omega (arith, so_far.later, call.later);
  each = λ c left. ⊎_elim (so_far.each c) (here c) (call.nothing_else (moment old) c so_far.later left);
  before = λ t c earlier left. ⊎_elim (so_far.before t c earlier) (λ now. inr (here c now)) (call.nothing_else t c (omega (arith, earlier, so_far.later)) left);
}

-- one run after another
pub after : {D : Type 0} (moment : D → ℕ) (left_since : D → ℕ → Image → Type 0) (old mid new : D) (P : Image → Type 0)
    → LeavesOnly moment left_since old mid P → LeavesOnly moment left_since mid new P → LeavesOnly moment left_since old new P
after moment left_since old mid new P first second = record {
  later = omega (arith, first.later, second.later);
  each = λ c left. ⊎_elim (first.each c) (λ has. has) (second.before (moment old) c first.later left);
  before = λ t c earlier left. ⊎_elim (first.before t c earlier) inr (second.before t c (omega (arith, earlier, first.later)) left);
}

-- what has P has Q, where it is known besides of each image that might have been left (`known` is a law of the disk at its end)
pub weaken_shaped : {D : Type 0} (moment : D → ℕ) (left_since : D → ℕ → Image → Type 0) (old new : D) (Shaped P Q : Image → Type 0)
    → ((t : ℕ) (c : Image) → left_since new t c → Shaped c) → ((c : Image) → Shaped c → P c → Q c) → LeavesOnly moment left_since old new P → LeavesOnly moment left_since old new Q
weaken_shaped moment left_since old new Shaped P Q known gives run = record {
  later = run.later;
  each = λ c left. gives c (known (moment old) c left) (run.each c left);
  before = λ t c earlier left. ⊎_elim inl (λ has. inr (gives c (known t c left) has)) (run.before t c earlier left);
}

-- what has P has Q
pub weaken : {D : Type 0} (moment : D → ℕ) (left_since : D → ℕ → Image → Type 0) (old new : D) (P Q : Image → Type 0)
    → ((c : Image) → P c → Q c) → LeavesOnly moment left_since old new P → LeavesOnly moment left_since old new Q
weaken moment left_since old new P Q gives run = weaken_shaped moment left_since old new (λ _. Unit {0}) P Q (λ _ _ _. tt) (λ c _ has. gives c has) run

-- what a crash may leave at the end of a run has P too; `counts_now` is the law of the disk at its end
pub at_the_end : {D : Type 0} (may_leave : D → Image → Type 0) (moment : D → ℕ) (left_since : D → ℕ → Image → Type 0) (old new : D) (P : Image → Type 0)
    → LeavesOnly moment left_since old new P → ((t : ℕ) (c : Image) → t ≤ moment new → may_leave new c → left_since new t c) → (c : Image) → may_leave new c → P c
at_the_end may_leave moment left_since old new P run counts_now c now = run.each c (counts_now (moment old) c run.later now)
