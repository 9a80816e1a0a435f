-- What a call of two disks keeps and counts, by what the calls of each of them do.
use Rattle.std.proofs.Common.{false, IsTrue, ◌≡◌, ◌+◌, ◌-◌, ◌*◌, ◌<◌, ◌^◌, ◌≤◌, ◌⊎◌, inl, inr, ℕ, Result, Ok, Err, IsErr, refl, sym, ◌∙◌, ap, arith}
use Rattle.std.proofs.lemmas.Bool.Decides.{nat_tests}
use Rattle.jb_disk.specs.Faults.{counted, CountsFault, CountsNone, MoreFaults, most_faults}
use Rattle.jb_disk.specs.Kept.{IsDiskKept, OnlyReads}
use Rattle.jb_disk.specs.KeptOn.{KeptOn, ReadsOn}
use Rattle.jb_disk.specs.Runs.{IsRunOn}
use Rattle.jb_disk.specs.declared.disk.Disk.{Ghosts}
use Rattle.jb_disk.proofs.KeptOverCalls.{kept_same}
use Rattle.jb_image.specs.declared.pair.PairDisk.{PairDisk}
use Rattle.jb_image.specs.declared.past.Past.{Past}
use Rattle.jb_image.specs.Pair.{joined_count, AreWellAsked, IsHonestPair, MayGoOnBoth, PairLeaves}

-- a fault of the one is one of two together
more-first : (old new other : ℕ) → MoreFaults old new → MoreFaults (counted old other) (counted new other)
more-first old new other more = record { rises = omega (arith, more.rises); no_fewer = omega (arith, more.no_fewer) }

more-second : (old new other : ℕ) → MoreFaults old new → MoreFaults (counted other old) (counted other new)
more-second old new other more = record { rises = omega (arith, more.rises); no_fewer = omega (arith, more.no_fewer) }

counts-first : {T X : Type 0} (result : Result T X) (old new other : ℕ) → CountsFault result old new → CountsFault result (counted old other) (counted new other)
counts-first (Ok _) old new other same = ap (λ n. counted n other) same
counts-first (Err _) old new other more = more-first old new other more

counts-second : {T X : Type 0} (result : Result T X) (old new other : ℕ) → CountsFault result old new → CountsFault result (counted other old) (counted other new)
counts-second (Ok _) old new other same = ap (λ n. counted other n) same
counts-second (Err _) old new other more = more-second old new other more

counts-failed : {T X : Type 0} (result : Result T X) (old new : ℕ) → IsErr result → MoreFaults old new → CountsFault result old new
counts-failed (Ok _) old new failed more = absurd (cc)
counts-failed (Err _) old new failed more = more

-- a count does not fall
no-fewer : {T X : Type 0} (result : Result T X) (old new : ℕ) → CountsFault result old new → old ≤ new
no-fewer (Ok _) old new same = omega (arith, same)
no-fewer (Err _) old new more = more.no_fewer

module _ {A B : Type 0} (G : Ghosts A) (H : Ghosts B) where
  abbrev pub PairKept : (ℕ → ℕ → Type 0) → PairDisk A B → PairDisk A B → Type 0
  PairKept = IsDiskKept (λ p. G.size p.front) (λ p. joined_count (G.size p.front) (G.count p.front) (H.size p.back) (H.count p.back)) (λ p. counted (G.faults p.front) (H.faults p.back)) (IsHonestPair G H)
      (MayGoOnBoth G H) (AreWellAsked G H)

  module _ (p : PairDisk A B) (a' : A) (b' : B) (new : Past A B) where
    -- the counts of both have not fallen, and one of the two goes on where both did
    keeps-both : {counts counts' : ℕ → ℕ → Type 0} (told : ℕ → ℕ → Type 0) → KeptOn G counts p.front a' → KeptOn H counts' p.back b'
        → G.faults p.front ≤ G.faults a' → H.faults p.back ≤ H.faults b'
        → (G.faults p.front < most_faults → H.faults p.back < most_faults → MayGoOnBoth G H p → G.may_go_on a' ⊎ H.may_go_on b')
        → told (counted (G.faults p.front) (H.faults p.back)) (counted (G.faults a') (H.faults b')) → PairKept told p (record { front = a'; back = b'; past = new })
    keeps-both told first second up up' one counted = record {
      same_size = first.same_size;
      same_count = rw (first.same_size, first.same_count, second.same_size, second.same_count) refl;
      was_honest = λ honest. record {
        first = first.was_honest honest.first;
        second = second.was_honest honest.second;
        same_size = sym first.same_size ∙ honest.same_size ∙ second.same_size;
        all_counted = rw (first.same_count, second.same_count) at honest.all_counted;
      };
      counted = counted;
      asked = λ few go well. record {
        first = first.asked (omega (arith, few)) go.first well.first;
        second = second.asked (omega (arith, few)) go.second well.second;
        one = one (omega (arith, few)) (omega (arith, few)) go;
      };
      going = λ few go same. record {
        first = first.going (omega (arith, few)) go.first (omega (arith, few, same, up, up'));
        second = second.going (omega (arith, few)) go.second (omega (arith, few, same, up, up'));
      };
    }

    -- a call of the first that succeeds, and one of the second
    pub keeps-then : {T X : Type 0} (result : Result T X) → KeptOn G CountsNone p.front a' → KeptOn H (CountsFault result) p.back b' → PairKept (CountsFault result) p (record { front = a'; back = b'; past = new })
    keeps-then result first second =
        keeps-both (CountsFault result) first second (omega (arith, first.counted)) (no-fewer result _ _ second.counted) (λ few few' go. inl (first.going few go.first first.counted))
        (rw first.counted (counts-second result (H.faults p.back) (H.faults b') (G.faults p.front) second.counted))

  module _ {T X : Type 0} (result : Result T X) (p : PairDisk A B) where
    module _ (a' : A) (new : Past A B) where
      -- a call of the first
      pub keeps-front : KeptOn G (CountsFault result) p.front a' → PairKept (CountsFault result) p (record { front = a'; back = p.back; past = new })
      keeps-front kept =
          keeps-both p a' p.back new (CountsFault result) kept (kept_same {counts = CountsNone} p.back refl) (no-fewer result _ _ kept.counted) (omega arith) (λ few few' go. inr go.second)
          (counts-first result (G.faults p.front) (G.faults a') (H.faults p.back) kept.counted)

      -- that fails, and what called it fails too
      pub fails-front : IsErr result → KeptOn G MoreFaults p.front a' → PairKept (CountsFault result) p (record { front = a'; back = p.back; past = new })
      fails-front failed kept =
          keeps-both p a' p.back new (CountsFault result) kept (kept_same {counts = CountsNone} p.back refl) kept.counted.no_fewer (omega arith) (λ few few' go. inr go.second)
          (counts-failed result (counted (G.faults p.front) (H.faults p.back)) (counted (G.faults a') (H.faults p.back)) failed (more-first (G.faults p.front) (G.faults a') (H.faults p.back) kept.counted))

    -- a call of the second
    pub keeps-back : (b' : B) (new : Past A B) → KeptOn H (CountsFault result) p.back b' → PairKept (CountsFault result) p (record { front = p.front; back = b'; past = new })
    keeps-back b' new kept =
        keeps-both p p.front b' new (CountsFault result) (kept_same {counts = CountsNone} p.front refl) kept (omega arith) (no-fewer result _ _ kept.counted) (λ few few' go. inl go.first)
        (counts-second result (H.faults p.back) (H.faults b') (G.faults p.front) kept.counted)

-- ---- reads of two disks

module _ {A B : Type 0} (G : Ghosts A) (H : Ghosts B) (p : PairDisk A B) (new : Past A B) where
  -- reads of the first, and then of the second
  pub reads-pair : (a' : A) (b' : B) → ReadsOn G p.front a' → ReadsOn H p.back b' → OnlyReads (PairLeaves G H) (MayGoOnBoth G H) p (record { front = a'; back = b'; past = new })
  reads-pair a' b' first second = record {
    pending = λ c left. record {
      front = left.front;
      back = left.back;
      first = first.pending left.front left.first;
      second = second.pending left.back left.second;
      joined = left.joined;
    };
    going = λ go. record { first = first.going go.first; second = second.going go.second };
  }

-- ---- a run of blocks of two disks

-- it lies in the first
pub run-front : {size place blocks bytes n : ℕ} (count all : ℕ) → n ≡ count → IsRunOn size all place blocks bytes → place + blocks ≤ n → IsRunOn size count place blocks bytes
run-front count all number run within = record { some = run.some; within = rw number at within; range = run.range; long = run.long }

-- or in the second
pub run-back : (size count other more : ℕ) {place blocks bytes n : ℕ} → n ≡ count → IsRunOn size (joined_count size count other more) place blocks bytes → n ≤ place → IsRunOn other more (place - n) blocks bytes
run-back size count other more number run past = grind (arith, nat_tests, run.some, run.within, run.range, run.long)

-- what begins in the first and ends in the second: its blocks in the first
pub run-begun : {size count place bytes n : ℕ} → n ≡ count → n < 2 ^ 64 → place < n → bytes ≡ size * (n - place) → IsRunOn size count place (n - place) bytes
run-begun number few before long = record { some = omega (arith, before); within = omega (arith, number, before); range = omega (arith, few, before); long = long }

-- ---- what is said of a disk that refuses its next call, or whose runs are calls

pub never : {P : Type 0} → IsTrue false → P
never told = absurd (let h : ⊥ = cc in h)
