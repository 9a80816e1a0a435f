-- Runs of calls, and runs as steps, for any disk: what the crates above cite for each call, each loop and each way out.
use Rattle.std.proofs.Common.{◌≤◌, ℕ, refl, sym, subst, inl, inr, ⊎_elim, arith}
use Rattle.jb_disk.specs.Image.{Image, ChangesNothing, Only}
use Rattle.jb_disk.specs.Time.{Goes, LeavesOnly}
use Rattle.jb_disk.specs.Steps.{Steps}
use Rattle.jb_disk.specs.Throughout.{AllHave, Throughout}
use Rattle.jb_disk.proofs.CallRuns.{started, steps_on, after, weaken}

module _ {D : Type 0} (may_leave : D → Image → Type 0) (moment : D → ℕ) (left_since : D → ℕ → Image → Type 0) where
  -- since this moment there is no other: the law of the disk
  abbrev pub OnlyNow : D → Type 0
  OnlyNow disk = (c : Image) → left_since disk (moment disk) c → may_leave disk c

  -- this moment is one of those since an earlier one: the law of the disk
  abbrev pub CountsNow : D → Type 0
  CountsNow disk = (t : ℕ) (c : Image) → t ≤ moment disk → may_leave disk c → left_since disk t c

  -- ---- one call

  -- no call at all
  pub goes-none : (old : D) → Goes may_leave moment left_since ChangesNothing old old
  goes-none old = record {
    crash = λ c now. (c, now, refl);
    later = omega arith;
    nothing_else = λ t c earlier left. inl left;
    keeps = λ t c earlier left. left;
  }

  -- a call that changes no block is one that may change some
  pub goes-as : (step : Image → Image → Type 0) (old new : D) → ((c : Image) → step c c) → Goes may_leave moment left_since ChangesNothing old new → Goes may_leave moment left_since step old new
  goes-as step old new stays call = record {
    crash = λ c now. let from = call.crash c now in (from.0, from.1, subst (λ d. step from.0 d) (sym from.2) (stays from.0));
    later = call.later;
    nothing_else = call.nothing_else;
    keeps = call.keeps;
  }

  -- a call after one that changed no block
  pub goes-on : (step : Image → Image → Type 0) (old mid new : D) → CountsNow old → Goes may_leave moment left_since ChangesNothing old mid → Goes may_leave moment left_since step mid new → Goes may_leave moment left_since step old new
  goes-on step old mid new counts_now first second =
      let back : (c : Image) → may_leave mid c → may_leave old c = λ c now. let from = first.crash c now in subst (may_leave old) (sym from.2) from.1 in
      record {
        crash = λ c now. let from = second.crash c now in (from.0, back from.0 from.1, from.2);
        later = omega (arith, first.later, second.later);
        nothing_else = λ t c earlier left.
            ⊎_elim (λ here. ⊎_elim inl (λ then. inl (counts_now t c earlier (back c then))) (first.nothing_else t c earlier here)) inr
            (second.nothing_else t c (omega (arith, earlier, first.later)) left);
        keeps = λ t c earlier left. second.keeps t c (omega (arith, earlier, first.later)) (first.keeps t c earlier left);
      }

  -- ---- a run

  -- before the first call
  pub throughout-start : (old : D) (P : Image → Type 0) → OnlyNow old → AllHave may_leave old P → Throughout may_leave moment left_since old old P
  throughout-start old P only_now has = record { now = has; leaves = started moment left_since old P (λ c left. has.each c (only_now c left)) }

  -- one call more, before which each image has Q, and by which it has P
  pub throughout-last : (step : Image → Image → Type 0) (old mid new : D) (Q P : Image → Type 0) → LeavesOnly moment left_since old mid P → AllHave may_leave mid Q → Goes may_leave moment left_since step mid new → ((c d : Image) → Q c → step c d → P d) → Throughout may_leave moment left_since old new P
  throughout-last step old mid new Q P so has call makes =
      let now : (c : Image) → may_leave new c → P c = λ c left. let from = call.crash c left in makes from.0 c (has.each from.0 from.1) from.2 in
      record { now = record { each = now }; leaves = steps_on may_leave moment left_since step old mid new P so call now }

  -- a first call, before which each image has Q, which is more
  pub throughout-first : (step : Image → Image → Type 0) (old new : D) (Q P : Image → Type 0) → OnlyNow old → AllHave may_leave old Q → ((c : Image) → Q c → P c) → Goes may_leave moment left_since step old new → ((c d : Image) → Q c → step c d → P d) → Throughout may_leave moment left_since old new P
  throughout-first step old new Q P only_now has gives call makes =
      throughout-last step old old new Q P (started moment left_since old P (λ c left. gives c (has.each c (only_now c left)))) has call makes

  -- one run after another
  pub throughout-after : (old mid new : D) (P : Image → Type 0) → Throughout may_leave moment left_since old mid P → Throughout may_leave moment left_since mid new P → Throughout may_leave moment left_since old new P
  throughout-after old mid new P first second = record { now = second.now; leaves = after moment left_since old mid new P first.leaves second.leaves }

  -- what has P has Q
  pub throughout-as : (old new : D) (P Q : Image → Type 0) → ((c : Image) → P c → Q c) → Throughout may_leave moment left_since old new P → Throughout may_leave moment left_since old new Q
  throughout-as old new P Q gives run = record {
    now = record { each = λ c left. gives c (run.now.each c left) };
    leaves = weaken moment left_since old new P Q gives run.leaves;
  }

  -- ---- a run as a step

  -- an image that comes by the step from one that a crash could leave
  abbrev pub Comes : (Image → Image → Type 0) → D → Image → Type 0
  Comes step old c = (d : Image) × may_leave old d × step d c

  -- before the first call
  pub steps-start : (step : Image → Image → Type 0) (old : D) → ((c : Image) → step c c) → OnlyNow old → Steps may_leave moment left_since step old old
  steps-start step old stays only_now = throughout-start old (Comes step old) only_now (record { each = λ c left. (c, left, stays c) })

  -- one call
  pub steps-goes : (step : Image → Image → Type 0) (old new : D) → ((c : Image) → step c c) → OnlyNow old → Goes may_leave moment left_since step old new → Steps may_leave moment left_since step old new
  steps-goes step old new stays only_now call =
      throughout-first step old new (may_leave old) (Comes step old) only_now (record { each = λ c left. left }) (λ c left. (c, left, stays c)) call (λ c d left one. (c, left, one))

  -- a step is a longer one
  pub steps-as : (step wider : Image → Image → Type 0) (old new : D) → ((c d : Image) → step c d → wider c d) → Steps may_leave moment left_since step old new → Steps may_leave moment left_since wider old new
  steps-as step wider old new widens run = throughout-as old new (Comes step old) (Comes wider old) (λ c from. (from.0, from.1, widens from.0 c from.2)) run

  -- one run after another
  pub steps-joined : (step next both : Image → Image → Type 0) (old mid new : D) → ((c d : Image) → step c d → both c d) → ((c d e : Image) → step c d → next d e → both c e) → Steps may_leave moment left_since step old mid → Steps may_leave moment left_since next mid new → Steps may_leave moment left_since both old new
  steps-joined step next both old mid new begins joins first second =
      let back : (c : Image) → Comes next mid c → Comes both old c = λ c from. let before = first.now.each from.0 from.1 in (before.0, before.1, joins before.0 from.0 c before.2 from.2) in
      throughout-after old mid new (Comes both old) (steps-as step both old mid begins first) (throughout-as mid new (Comes next mid) (Comes both old) back second)

  pub steps-on : (step next : Image → Image → Type 0) (old mid new : D) → ((c d e : Image) → step c d → next d e → step c e) → Steps may_leave moment left_since step old mid → Steps may_leave moment left_since next mid new → Steps may_leave moment left_since step old new
  steps-on step next old mid new joins first second = steps-joined step next step old mid new (λ c d one. one) joins first second

  -- a run after one that changed no block
  pub steps-then : (step : Image → Image → Type 0) (old mid new : D) → ((c : Image) → step c c) → Steps may_leave moment left_since ChangesNothing old mid → Steps may_leave moment left_since step mid new → Steps may_leave moment left_since step old new
  steps-then step old mid new stays first second =
      steps-joined ChangesNothing step step old mid new (λ c d same. subst (step c) (sym same) (stays c)) (λ c d e same one. subst (λ from. step from e) same one) first second

  -- where a crash before the run leaves one image alone
  pub steps-settled : (step : Image → Image → Type 0) (old new : D) (base : Image) → Only base (may_leave old) → Steps may_leave moment left_since step old new → LeavesOnly moment left_since old new (step base)
  steps-settled step old new base only run = (throughout-as old new (Comes step old) (step base) (λ c from. subst (λ d. step d c) (only from.0 from.1) from.2) run).leaves
