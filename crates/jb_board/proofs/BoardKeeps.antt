-- Each kind of step keeps the rule of the board.
use Rattle.std.proofs.Common.{◌≡◌, ℕ, ◌≤◌, ◌≢◌, List, [], ◌∷◌, ◌++◌, max, slice_index, slice_set, sym, refl, subst, ⊎_elim, le_refl, le_trans, arith}
use Rattle.std.proofs.Math.Nat.{le-max_left, le-max_right, max-le}
use Rattle.std.proofs.lemmas.List.{set-get_or}
use mathlib.Core.Option.{some, none, some-ne-none}
use lib.ListN.{get_elem?}
use Rattle.atomic_table.specs.Table.{State, Me, keeps, step, Allows, Splits, Joins, Enters as Arrivals}
use Rattle.atomic_table.proofs.Lists.{at_set, at_snoc, set_again}
use Rattle.jb_board.specs.declared.front.Front.{Front}
use Rattle.jb_board.specs.Front.{front, InOrder, IsWithin}
use Rattle.jb_board.specs.Rule.{words_of_counts, AreCountsKept}
use Rattle.jb_board.specs.Steps.{saw_settled, saw_taken, saw_stopped, raised_settled, raised_taken, raised_stopped, SeesSettled, SeesTaken, SeesStopped, RaisesSettled, RaisesTaken, RaisesStopped}

-- the rule, as the table has it
abbrev pub Holds : State (Unit {0}) Front → Type 0
Holds s = AreCountsKept s.words s.views

-- what a step makes of the counts and of the seat's view, and what it answers
record Goes (now : Front) (word : ℕ) (f : ℕ → ℕ) (told : ℕ → Front → Type 0) : Type 0 where
  next : Front
  view : Front
  counts : slice_set (words_of_counts now) word (f (slice_index (words_of_counts now) word)) ≡ words_of_counts next
  ordered : InOrder next
  rises : IsWithin now next
  within : IsWithin view next
  tells : told (slice_index (words_of_counts now) word) view

within_all : {v now next : Front} → IsWithin v now → IsWithin now next → IsWithin v next
within_all a b = (omega (arith, a.0, b.0), omega (arith, a.1, b.1), omega (arith, a.2, b.2))

-- a step keeps the rule where it does so of every three counts in order that the seat's view is within
allows : (slots id : ℕ) (me : Me (Unit {0}) Front) (word : ℕ) (f : ℕ → ℕ) (told : ℕ → Me (Unit {0}) Front → Type 0)
    → ((now : Front) → InOrder now → IsWithin me.0 now → Goes now word f (λ n v. told n (v, me.1)))
    → Allows Holds slots id me word f told
allows slots id me word f told goes s kept len at small =
    let now = kept.now in
    let g = goes now kept.ordered (kept.within id me.0 at) in
    let same : words_of_counts now ≡ s.words = sym kept.counts in (
      g.view,
      keeps,
      tt,
      record {
        now = g.next;
        counts = subst (λ ws. slice_set ws word (f (slice_index ws word)) ≡ words_of_counts g.next) same g.counts;
        ordered = g.ordered;
        within = λ j u e.
            ⊎_elim (λ (t : (j ≡ id) × (g.view ≡ u)). subst (λ v. IsWithin v g.next) t.1 g.within) (λ (t : (j ≢ id) × (get_elem? s.views j ≡ some u)). within_all (kept.within j u t.1) g.rises)
            (at_set s.views id j g.view u e);
      },
      subst (λ ws. told (slice_index ws word) (g.view, me.1)) same g.tells,
    )

-- a load leaves the counts, and lifts the seat's view within them
loads : (slots id : ℕ) (me : Me (Unit {0}) Front) (word : ℕ) (told : ℕ → Me (Unit {0}) Front → Type 0)
    → ((now : Front) → InOrder now → IsWithin me.0 now → (view : Front) × IsWithin view now × told (slice_index (words_of_counts now) word) (view, me.1))
    → Allows Holds slots id me word (λ n. n) told
loads slots id me word told sees = allows slots id me word (λ n. n) told (λ now ordered within.
    let saw = sees now ordered within in record {
      next = now;
      view = saw.0;
      counts = set-get_or (words_of_counts now) word 0;
      ordered = ordered;
      rises = (le_refl now.settled, le_refl now.taken, le_refl now.stopped);
      within = saw.1;
      tells = saw.2;
    })

pub loads_settled : (slots id : ℕ) (me : Me (Unit {0}) Front) → Allows Holds slots id me 2 (λ n. n) (SeesSettled (step slots 2 0 0 none) me)
loads_settled slots id me = loads slots id me 2 (SeesSettled (step slots 2 0 0 none) me) (λ now ordered within.
    (saw_settled me.0 now.settled, (le_refl now.settled, max-le within.1 ordered.0, max-le within.2 (le_trans ordered.0 ordered.1)), (within.0, refl)))

pub loads_taken : (slots id : ℕ) (me : Me (Unit {0}) Front) → Allows Holds slots id me 1 (λ n. n) (SeesTaken (step slots 1 0 0 none) me)
loads_taken slots id me = loads slots id me 1 (SeesTaken (step slots 1 0 0 none) me) (λ now ordered within.
    (saw_taken me.0 now.taken, (within.0, le_refl now.taken, max-le within.2 ordered.1), (within.1, refl)))

pub loads_stopped : (slots id : ℕ) (me : Me (Unit {0}) Front) → Allows Holds slots id me 0 (λ n. n) (SeesStopped (step slots 0 0 0 none) me)
loads_stopped slots id me = loads slots id me 0 (SeesStopped (step slots 0 0 0 none) me) (λ now ordered within.
    (saw_stopped me.0 now.stopped, (within.0, within.1, le_refl now.stopped), (within.2, refl)))

-- where one count is raised to k, the larger of two counts stays the larger
max_within : {a b : ℕ} (k : ℕ) → a ≤ b → max a k ≤ max b k
max_within {a} {b} k le = max-le (le_trans le (le-max_left b k)) (le-max_right b k)

pub raises_stopped : (slots id : ℕ) (me : Me (Unit {0}) Front) (k : ℕ) → Allows Holds slots id me 0 (λ n. max n k) (RaisesStopped (step slots 0 k 0 none) me)
raises_stopped slots id me k = allows slots id me 0 (λ n. max n k) (RaisesStopped (step slots 0 k 0 none) me) (λ now ordered within. record {
  next = raised_stopped now k;
  view = raised_stopped me.0 k;
  counts = refl;
  ordered = (ordered.0, le_trans ordered.1 (le-max_left now.stopped k));
  rises = (le_refl now.settled, le_refl now.taken, le-max_left now.stopped k);
  within = (within.0, within.1, max_within k within.2);
  tells = refl;
})

pub raises_taken : (slots id : ℕ) (me : Me (Unit {0}) Front) (k : ℕ) → k ≤ me.0.stopped → Allows Holds slots id me 1 (λ n. max n k) (RaisesTaken (step slots 1 k 0 none) me)
raises_taken slots id me k stopped = allows slots id me 1 (λ n. max n k) (RaisesTaken (step slots 1 k 0 none) me) (λ now ordered within. record {
  next = raised_taken now k;
  view = raised_taken me.0 k;
  counts = refl;
  ordered = (le_trans ordered.0 (le-max_left now.taken k), max-le ordered.1 (le_trans stopped within.2));
  rises = (le_refl now.settled, le-max_left now.taken k, le_refl now.stopped);
  within = (within.0, max_within k within.1, within.2);
  tells = refl;
})

pub raises_settled : (slots id : ℕ) (me : Me (Unit {0}) Front) (k : ℕ) → k ≤ me.0.taken → Allows Holds slots id me 2 (λ n. max n k) (RaisesSettled (step slots 2 k 0 none) me)
raises_settled slots id me k taken = allows slots id me 2 (λ n. max n k) (RaisesSettled (step slots 2 k 0 none) me) (λ now ordered within. record {
  next = raised_settled now k;
  view = raised_settled me.0 k;
  counts = refl;
  ordered = (max-le ordered.0 (le_trans taken within.1), ordered.1);
  rises = (le-max_left now.settled k, le_refl now.taken, le_refl now.stopped);
  within = (max_within k within.0, within.1, within.2);
  tells = refl;
})

-- a seat that has seen nothing is within any counts
nothing_within : (now : Front) → IsWithin (front 0 0 0) now
nothing_within now = (omega arith, omega arith, omega arith)

-- one more view, within the counts, keeps the rule
one_more : (words : List ℕ) (views : List Front) (v : Front) (kept : AreCountsKept words views) → IsWithin v kept.now → AreCountsKept words (views ++ v ∷ [])
one_more words views v kept in_bounds = record {
  now = kept.now;
  counts = kept.counts;
  ordered = kept.ordered;
  within = λ j u e. ⊎_elim (kept.within j u) (λ (same : v ≡ u). subst (λ w. IsWithin w kept.now) same in_bounds) (at_snoc views v u j e);
}

pub enters : (slots : ℕ) → Arrivals Holds slots 0 (λ n w. w ≡ front 0 0 0)
enters slots s kept len small = (front 0 0 0, one_more s.words s.views (front 0 0 0) kept (nothing_within kept.now), refl)

pub splits : (id : ℕ) (v : Front) → Splits Holds id v v v
splits id v s kept at = subst (λ views. AreCountsKept s.words (views ++ v ∷ [])) (sym (set_again s.views id v at)) (one_more s.words s.views v kept (kept.within id v at))

pub joins : (id : ℕ) (v : Front) (other : ℕ) (w : Front) → Joins Holds id v other w v (front 0 0 0)
joins id v other w s kept at apart there = record {
  now = kept.now;
  counts = kept.counts;
  ordered = kept.ordered;
  within = λ j u e.
      ⊎_elim (λ (t : (j ≡ other) × (front 0 0 0 ≡ u)). subst (λ x. IsWithin x kept.now) t.1 (nothing_within kept.now))
      (λ (t : (j ≢ other) × (get_elem? (slice_set s.views id v) j ≡ some u)). kept.within j u (subst (λ views. get_elem? views j ≡ some u) (set_again s.views id v at) t.1))
      (at_set (slice_set s.views id v) other j (front 0 0 0) u e);
}

pub starts : AreCountsKept (0 ∷ 0 ∷ 0 ∷ []) (front 0 0 0 ∷ [])
starts = one_more (0 ∷ 0 ∷ 0 ∷ []) [] (front 0 0 0) record { now = front 0 0 0; counts = refl; ordered = (omega arith, omega arith); within = λ j u e. absurd (some-ne-none u (sym e)) } (nothing_within (front 0 0 0))
