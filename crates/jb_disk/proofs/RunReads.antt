-- Blocks in a row, read one after the other.
use Rattle.std.proofs.Common.{◌≡◌, ◌<◌, ◌≤◌, ℕ, zero, suc, ◌+◌, ◌-◌, ◌*◌, ◌^◌, Bool, true, false, IsTrue, List, ◌++◌, length, take, drop, ⊎_elim, ap, refl, sym, ◌∙◌, subst, arith, Result, Ok, Err, is_ok, IsOk, IsErr}
use Rattle.std.proofs.lemmas.Bool.{cases_lt}
use Rattle.std.proofs.lemmas.List.{drop-take, take-append-le, take-take}
use Rattle.std.proofs.lemmas.Slice.{take-put_mid_below, between-put_mid}
use borrow.Rule.Slice.PartMut.{put_mid}
use Rattle.jb_disk.specs.OneCall.{AllMade, AreMade, Called, Reads}
use Rattle.jb_disk.specs.Image.{Image, block, ChangesNothing}
use Rattle.jb_disk.specs.Faults.{CountsNone}
use Rattle.jb_disk.specs.Kept.{Untouched}
use Rattle.jb_disk.specs.KeptOn.{KeptOn, ReadsOn}
use Rattle.jb_disk.specs.Runs.{part, IsRunOn, ReadsRun}
use Rattle.jb_disk.specs.Time.{Goes}
use Rattle.jb_disk.specs.declared.disk.Disk.{Ghosts}
use Rattle.jb_disk.specs.declared.fault.Fault.{Fault}

-- ---- a buffer of blocks

-- a block is that of a buffer with the same bytes up to its end
part-same : (size k : ℕ) (xs ys : List ℕ) → take (size * k + size) xs ≡ take (size * k + size) ys → part size k xs ≡ part size k ys
part-same size k xs ys same = sym (drop-take (size * k) size xs) ∙ ap (drop (size * k)) same ∙ drop-take (size * k) size ys

-- the block that was read is there
pub part-put : (size k m : ℕ) (to ys : List ℕ) → m ≡ size → length ys ≡ size → size * k + size ≤ length to → part size k (put_mid (size * k) m to ys) ≡ ys
part-put size k m to ys is long within =
    ap (λ n. take n (drop (size * k) (put_mid (size * k) m to ys))) (let h : size ≡ size * k + size - size * k = omega arith in h)
    ∙ between-put_mid (size * k) m to ys (size * k + size) (omega (arith, within)) (omega (arith, long))

-- and those before it have stayed
pub part-before : (size j k m : ℕ) (to ys : List ℕ) → j < k → size * k ≤ length to → part size j (put_mid (size * k) m to ys) ≡ part size j to
part-before size j k m to ys below within =
    let up : size * j + size ≤ size * k = grind (arith, below) in
    part-same size j (put_mid (size * k) m to ys) to (take-put_mid_below (size * k) m to ys (size * j + size) up within)

-- the blocks of a buffer's front are those of the buffer
pub part-front_of : (size n k : ℕ) (bytes : List ℕ) → k < n → part size k bytes ≡ part size k (take (size * n) bytes)
part-front_of size n k bytes below =
    let up : size * k + size ≤ size * n = grind (arith, below) in
    part-same size k bytes (take (size * n) bytes) (sym (take-take (size * k + size) (size * n) bytes up))

-- what is behind the blocks does not matter
pub part-append : (size k : ℕ) (xs ys : List ℕ) → size * k + size ≤ length xs → part size k (xs ++ ys) ≡ part size k xs
part-append size k xs ys within = part-same size k (xs ++ ys) xs (take-append-le (size * k + size) xs ys within)

-- one block more is read
pub reads-more : (size n place m : ℕ) (c : Image) (to ys : List ℕ) → m ≡ size → length ys ≡ size → size * n + size ≤ length to
    → ReadsRun size n place c to → ys ≡ block c (place + n) → ReadsRun size (n + 1) place c (put_mid (size * n) m to ys)
reads-more size n place m c to ys is long within so_far found k below =
    ⊎_elim (λ less. part-before size k n m to ys less (omega (arith, within)) ∙ so_far k less)
    (λ past.
    let same : n ≡ k = omega (arith, below, past) in
    subst (λ j. part size j (put_mid (size * n) m to ys) ≡ block c (place + j)) same (part-put size n m to ys is long within ∙ found))
    (cases_lt k n)

-- one block is a run
pub run-one : {size count place bytes : ℕ} → place < count → place + 1 < 2 ^ 64 → bytes ≡ size → IsRunOn size count place 1 bytes
run-one within range long = record { some = omega arith; within = omega (arith, within); range = range; long = omega (arith, long) }

-- ---- the calls of a run

module _ {D : Type 0} (own : Called → D → D → Bool → Type 0) (call : ℕ → Called) where
  -- one more succeeded
  pub made-more : (n : ℕ) (old mid new : D) → AllMade own call n old mid → own (call n) mid new true → AllMade own call (n + 1) old new
  made-more n old mid new so_far one = subst (λ m. AllMade own call m old new) (let h : suc n ≡ n + 1 = omega arith in h) (mid, so_far, one)

  -- a disk of which no call that succeeds says anything may make them as one
  pub made-once : (n : ℕ) (old new : D) (ok : Bool) → 0 < n → ((k : ℕ) → own (call k) old old true) → ((k : ℕ) → (ok ≡ false → k ≡ 0) → own (call k) old new ok) → AreMade own call n old new ok
  made-once zero old new ok some idle last = absurd (let h : ⊥ = omega (arith, some) in h)
  made-once (suc n) old new true some idle last = (old, stays n, last n (λ is. absurd (let h : ⊥ = cc in h)))
    where
      stays : (k : ℕ) → AllMade own call k old old
      stays zero = refl
      stays (suc k) = (old, stays k, idle k)
  made-once (suc n) old new false some idle last = (0, omega arith, old, refl, last 0 (λ _. refl))

-- ---- the loop

-- the first k blocks from a place on are read
pub record ReadSoFar {D : Type 0} (G : Ghosts D) (place k : ℕ) (old now : D) (buf : List ℕ) : Type 0 where
  pub kept : KeptOn G CountsNone old now
  pub made : AllMade G.own (λ j. Reads (place + j)) k old now
  pub found : G.honest now → ReadsRun (G.size old) k place (G.newest old) buf
  pub same_newest : G.honest now → G.newest now ≡ G.newest old
  pub goes : G.honest now → Goes G.may_leave G.moment G.left_since ChangesNothing old now
  pub reads : ReadsOn G old now
  pub untried : k ≡ 0 → now ≡ old
  pub passed : 0 < k → IsTrue (G.fails_next old) → ⊥

-- a call that failed did not succeed
pub err_is : (r : Result Unit Fault) → IsErr r → is_ok r ≡ false
err_is (Ok done) failed = absurd (let h : ⊥ = cc in h)
err_is (Err fault) failed = refl

-- where the first call had to fail, the one that failed was the first
pub refused-first : {D : Type 0} (G : Ghosts D) (k : ℕ) (old now new : D) → (k ≡ 0 → now ≡ old) → (0 < k → IsTrue (G.fails_next old) → ⊥)
    → (IsTrue (G.fails_next now) → Untouched G.newest G.may_leave G.moment now new) → IsTrue (G.fails_next old) → Untouched G.newest G.may_leave G.moment old new
refused-first G k old now new untried passed spent burnt = ⊎_elim
    (λ more. absurd (passed more burnt))
    (λ none.
    let same : now ≡ old = untried (omega (arith, none)) in
    subst (λ d. Untouched G.newest G.may_leave G.moment d new) same (spent (subst (λ d. IsTrue (G.fails_next d)) (sym same) burnt)))
    (cases_lt 0 k)

-- a call that succeeded was not one that had to fail
pub not_spent : {D : Type 0} (G : Ghosts D) (k : ℕ) (old now : D) (result : Result Unit Fault) → (k ≡ 0 → now ≡ old) → (0 < k → IsTrue (G.fails_next old) → ⊥)
    → (IsTrue (G.fails_next now) → IsErr result) → IsOk result → IsTrue (G.fails_next old) → ⊥
not_spent G k old now result untried passed spent ok burnt = ⊎_elim
    (λ more. passed more burnt)
    (λ none. both result ok (spent (subst (λ d. IsTrue (G.fails_next d)) (sym (untried (omega (arith, none)))) burnt)))
    (cases_lt 0 k)
  where
    both : (r : Result Unit Fault) → IsOk r → IsErr r → ⊥
    both (Ok x) is err = let h : ⊥ = cc in h
    both (Err f) is err = let h : ⊥ = cc in h
