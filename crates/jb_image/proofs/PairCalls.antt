-- How a crash of two disks goes on where one of them is called.
use Rattle.std.proofs.Common.{◌≡◌, ◌⊎◌, ℕ, ◌+◌, List, ◌∷◌, ◌++◌, length, refl, sym, ap, subst, inl, inr, ⊎_elim, arith, rules}
use Rattle.jb_disk.specs.Image.{Image, ChangesNothing, HasShape}
use Rattle.jb_disk.specs.KeptOn.{KeptOn}
use Rattle.jb_disk.specs.Runs.{TornRun}
use Rattle.jb_disk.specs.Steps.{Steps}
use Rattle.jb_disk.specs.Time.{Goes}
use Rattle.jb_disk.specs.declared.disk.Disk.{Ghosts}
use Rattle.jb_disk.proofs.RunWrites.{torn_run-same}
use Rattle.jb_disk.proofs.CallSteps.{goes-on, steps-joined}
use Rattle.jb_image.specs.declared.pair.PairDisk.{PairDisk}
use Rattle.jb_image.specs.declared.past.Past.{Past}
use Rattle.jb_image.proofs.JoinedImages.{Halves, in-front, in-back, torn_blocks, torn_run-then}
use Rattle.jb_image.specs.Laws.{counts_both, left_from-now, only_both}
use Rattle.jb_image.specs.Past.{states, LeftBetween, LeftOfBoth}
use Rattle.jb_image.specs.Pair.{joined_count, past_states, IsHonestPair, PairLeaves, PairLeftSince}

-- the law of a disk: since this moment there is no other
abbrev pub OnlyNow : {D : Type 0} → Ghosts D → Type 0
OnlyNow {D} K = (d : D) (c : Image) → K.honest d → K.left_since d (K.moment d) c → K.may_leave d c

-- and this one: what a crash may leave has its shape
abbrev pub HasShapes : {D : Type 0} → Ghosts D → Type 0
HasShapes {D} K = (d : D) (c : Image) → K.honest d → K.may_leave d c → HasShape (K.count d) (K.size d) c

module _ {A B : Type 0} (G : Ghosts A) (H : Ghosts B) where
  abbrev pub PairGoes : (Image → Image → Type 0) → PairDisk A B → PairDisk A B → Type 0
  PairGoes = Goes (PairLeaves G H) (λ p. length (past_states p)) (PairLeftSince G H)

  abbrev pub PairSteps : (Image → Image → Type 0) → PairDisk A B → PairDisk A B → Type 0
  PairSteps = Steps (PairLeaves G H) (λ p. length (past_states p)) (PairLeftSince G H)

  abbrev Shaped : PairDisk A B → Image → Type 0
  Shaped p = HasShape (joined_count (G.size p.front) (G.count p.front) (H.size p.back) (H.count p.back)) (G.size p.front)

  -- what a crash might have left in the call between two states
  abbrev pub Between : PairDisk A B → PairDisk A B → Image → Type 0
  Between p q = LeftBetween G.may_leave G.moment G.left_since H.may_leave H.moment H.left_since (p.front, p.back) (q.front, q.back)

  -- an image that comes by the step from one that a crash could leave before it
  abbrev pub Comes : (Image → Image → Type 0) → PairDisk A B → Image → Type 0
  Comes step p c = (d : Image) × PairLeaves G H p d × step d c

  -- ---- one of the two is called, and the states before that are noted

  module _ (p q : PairDisk A B) (noted : past_states q ≡ (p.front, p.back) ∷ past_states p)
      (size : G.size q.front ≡ G.size p.front) (count : G.count q.front ≡ G.count p.front) (other : H.size q.back ≡ H.size p.back) (more : H.count q.back ≡ H.count p.back) where
    abbrev From : List (A × B) → ℕ → Image → Type 0
    From = LeftOfBoth G.may_leave G.moment G.left_since H.may_leave H.moment H.left_since (q.front, q.back)

    shape-before : (c : Image) → Shaped q c → Shaped p c
    shape-before c shape = rw (sym size, sym count, sym other, sym more) shape

    -- one call
    pub goes-pair : (step : Image → Image → Type 0) → ((c : Image) → PairLeaves G H q c → Comes step p c) → ((c : Image) → Between p q c → PairLeaves G H p c ⊎ PairLeaves G H q c) → PairGoes step p q
    goes-pair step moves within = record {
      crash = moves;
      later = omega (arith, ap length noted);
      nothing_else = λ t c earlier left.
          let since = left_from-now G.may_leave G.moment G.left_since H.may_leave H.moment H.left_since (p.front, p.back) (past_states p) t c earlier in
          ⊎_elim
          (λ here. inr here.1)
          (⊎_elim
          (λ between. ⊎_elim (λ before. inl (record { shape = shape-before c left.shape; left = since before })) inr (within c between.1))
          (λ before. inl (record { shape = shape-before c left.shape; left = before })))
          (subst (λ past. From past t c) noted left.left);
      keeps = λ t c earlier left. record {
        shape = rw (size, count, other, more) left.shape;
        left = subst (λ past. From past t c) (sym noted) (inr (inr left.left));
      };
    }

    -- a run of calls, noted as one
    pub steps-pair : (step : Image → Image → Type 0) → ((c : Image) → step c c) → ((c : Image) → PairLeaves G H q c → Comes step p c) → ((c : Image) → Between p q c → Comes step p c)
        → PairSteps step p q
    steps-pair step stays moves within =
        let back : (t : ℕ) (c : Image) → PairLeftSince G H q t c → PairLeftSince G H p t c ⊎ Comes step p c
        = λ t c left. ⊎_elim
        (λ here. inr (moves c here.1))
        (⊎_elim (λ between. inr (within c between.1)) (λ before. inl (record { shape = shape-before c left.shape; left = before })))
        (subst (λ past. From past t c) noted left.left) in
        record {
          now = record { each = moves };
          leaves = record {
            later = omega (arith, ap length noted);
            each = λ c left. ⊎_elim (λ before. (c, only_both G H p c before, stays c)) (λ comes. comes) (back (length (past_states p)) c left);
            before = λ t c earlier left. back t c left;
          };
        }

  module _ (only_a : OnlyNow G) (only_b : OnlyNow H) where
    -- ---- the first disk

    module _ (p : PairDisk A B) (a' : A) (new : Past A B) (noted : states new ≡ (p.front, p.back) ∷ past_states p) {counts : ℕ → ℕ → Type 0} (kept : KeptOn G counts p.front a') where
      abbrev front_called : PairDisk A B
      front_called = record { front = a'; back = p.back; past = new }

      module _ (step step' : Image → Image → Type 0) (honest : IsHonestPair G H front_called) (joins : (x x' y : Image) → G.may_leave p.front x → step x x' → step' (x ++ y) (x' ++ y)) where
        moves-front : (c x y : Image) → ((d : Image) × G.may_leave p.front d × step d x) → H.may_leave p.back y → c ≡ x ++ y → Comes step' p c
        moves-front c x y from still joined = (
          from.0 ++ y,
          record { front = from.0; back = y; first = from.1; second = still; joined = refl },
          subst (step' (from.0 ++ y)) (sym joined) (joins from.0 x y from.1 from.2),
        )

        pub goes-front : Goes G.may_leave G.moment G.left_since step p.front a' → PairGoes step' p front_called
        goes-front call =
            goes-pair p front_called noted kept.same_size kept.same_count refl refl step'
            (λ c left. moves-front c left.front left.back (call.crash left.front left.first) left.second left.joined)
            (λ c one.
            let quiet = only_b p.back one.back honest.second one.second in
            ⊎_elim
            (λ before. inl (record { front = one.front; back = one.back; first = only_a p.front one.front (kept.was_honest honest.first) before; second = quiet; joined = one.joined }))
            (λ then. inr (record { front = one.front; back = one.back; first = then; second = quiet; joined = one.joined }))
            (call.nothing_else (G.moment p.front) one.front (omega arith) one.first))

        pub steps-front : ((c : Image) → step' c c) → Steps G.may_leave G.moment G.left_since step p.front a' → PairSteps step' p front_called
        steps-front stays run =
            steps-pair p front_called noted kept.same_size kept.same_count refl refl step' stays
            (λ c left. moves-front c left.front left.back (run.now.each left.front left.first) left.second left.joined)
            (λ c one. moves-front c one.front one.back (run.leaves.each one.front one.first) (only_b p.back one.back honest.second one.second) one.joined)

      -- a call that changes no block
      pub reads-front : (G.honest a' → Goes G.may_leave G.moment G.left_since ChangesNothing p.front a') → IsHonestPair G H front_called → PairGoes ChangesNothing p front_called
      reads-front goes honest = goes-front ChangesNothing ChangesNothing honest (λ x x' y _ same. ap (λ z. z ++ y) same) (goes honest.first)

    -- ---- the second disk

    module _ (p : PairDisk A B) (b' : B) (new : Past A B) (noted : states new ≡ (p.front, p.back) ∷ past_states p) {counts : ℕ → ℕ → Type 0} (kept : KeptOn H counts p.back b') where
      abbrev back_called : PairDisk A B
      back_called = record { front = p.front; back = b'; past = new }

      module _ (step step' : Image → Image → Type 0) (honest : IsHonestPair G H back_called) (joins : (x y y' : Image) → G.may_leave p.front x → step y y' → step' (x ++ y) (x ++ y')) where
        moves-back : (c x y : Image) → G.may_leave p.front x → ((d : Image) × H.may_leave p.back d × step d y) → c ≡ x ++ y → Comes step' p c
        moves-back c x y still from joined = (
          x ++ from.0,
          record { front = x; back = from.0; first = still; second = from.1; joined = refl },
          subst (step' (x ++ from.0)) (sym joined) (joins x from.0 y still from.2),
        )

        pub goes-back : Goes H.may_leave H.moment H.left_since step p.back b' → PairGoes step' p back_called
        goes-back call =
            goes-pair p back_called noted refl refl kept.same_size kept.same_count step'
            (λ c left. moves-back c left.front left.back left.first (call.crash left.back left.second) left.joined)
            (λ c one.
            let quiet = only_a p.front one.front honest.first one.first in
            ⊎_elim
            (λ before. inl (record { front = one.front; back = one.back; first = quiet; second = only_b p.back one.back (kept.was_honest honest.second) before; joined = one.joined }))
            (λ then. inr (record { front = one.front; back = one.back; first = quiet; second = then; joined = one.joined }))
            (call.nothing_else (H.moment p.back) one.back (omega arith) one.second))

        pub steps-back : ((c : Image) → step' c c) → Steps H.may_leave H.moment H.left_since step p.back b' → PairSteps step' p back_called
        steps-back stays run =
            steps-pair p back_called noted refl refl kept.same_size kept.same_count step' stays
            (λ c left. moves-back c left.front left.back left.first (run.now.each left.back left.second) left.joined)
            (λ c one. moves-back c one.front one.back (only_a p.front one.front honest.first one.first) (run.leaves.each one.back one.second) one.joined)

      -- a call that changes no block
      pub reads-back : (H.honest b' → Goes H.may_leave H.moment H.left_since ChangesNothing p.back b') → IsHonestPair G H back_called → PairGoes ChangesNothing p back_called
      reads-back goes honest = goes-back ChangesNothing ChangesNothing honest (λ x y y' _ same. ap (λ z. x ++ z) same) (goes honest.second)

    -- ---- the first disk, and then the second

    module _ (shapes_a : HasShapes G) (shapes_b : HasShapes H) (p : PairDisk A B) (a' : A) (b' : B) (mid new : Past A B)
        (noted : states mid ≡ (p.front, p.back) ∷ past_states p) (noted' : states new ≡ (a', p.back) ∷ states mid)
        {counts counts' : ℕ → ℕ → Type 0} (kept : KeptOn G counts p.front a') (kept' : KeptOn H counts' p.back b') (honest : IsHonestPair G H (record { front = a'; back = b'; past = new })) where
      abbrev midway : PairDisk A B
      midway = record { front = a'; back = p.back; past = mid }

      abbrev end : PairDisk A B
      end = record { front = a'; back = b'; past = new }

      -- they were honest in between
      between : IsHonestPair G H midway
      between = search (rules, kept'.was_honest honest.second, rw kept'.same_size at honest.same_size, rw kept'.same_count at honest.all_counted)

      -- and before
      was : IsHonestPair G H p
      was = search (rules, kept.was_honest honest.first, between.second, rw kept.same_size at between.same_size, rw kept.same_count at between.all_counted)

      -- calls that change no block
      pub goes-both : (G.honest a' → Goes G.may_leave G.moment G.left_since ChangesNothing p.front a') → (H.honest b' → Goes H.may_leave H.moment H.left_since ChangesNothing p.back b') → PairGoes ChangesNothing p end
      goes-both first second =
          goes-on (PairLeaves G H) (λ p. length (past_states p)) (PairLeftSince G H) ChangesNothing p midway end
          (λ t d earlier left. counts_both G H p t d was (λ x. shapes_a p.front x was.first) (λ y. shapes_b p.back y was.second) earlier left)
          (reads-front p a' mid noted kept first between)
          (reads-back midway b' new noted' kept' second honest)

      -- one run that lies in both
      pub steps-both : {bytes n m blocks : ℕ} {first rest whole : List ℕ} (halves : Halves bytes n m blocks first rest whole) (place : ℕ) → place + n ≡ G.count p.front
          → Steps G.may_leave G.moment G.left_since (TornRun bytes n place first) p.front a' → Steps H.may_leave H.moment H.left_since (TornRun bytes m 0 rest) p.back b'
          → PairSteps (TornRun bytes blocks place whole) p end
      steps-both {bytes} {n} {m} {blocks} {first} {rest} {whole} halves place ends begun ended =
          steps-joined (PairLeaves G H) (λ p. length (past_states p)) (PairLeftSince G H)
          (TornRun bytes n place first) (TornRun bytes m (place + n) rest) (TornRun bytes blocks place whole) p midway end
          (λ c d torn. torn_run-then halves place c d d torn (torn_run-same bytes m (place + n) rest d)) (torn_run-then halves place)
          (steps-front p a' mid noted kept (TornRun bytes n place first) (TornRun bytes n place first) between
          (λ x x' y left torn. in-front n (torn_blocks bytes n first) place x x' y (omega (arith, ends, (shapes_a p.front x was.first left).blocks)) torn) (torn_run-same bytes n place first) begun)
          (steps-back midway b' new noted' kept' (TornRun bytes m 0 rest) (TornRun bytes m (place + n) rest) honest
          (λ x y y' left torn. in-back m (torn_blocks bytes m rest) 0 (place + n) x y y' (omega (arith, ends, kept.same_count, (shapes_a a' x honest.first left).blocks)) torn)
          (torn_run-same bytes m (place + n) rest) ended)
