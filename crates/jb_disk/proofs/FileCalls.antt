-- A call of a file that is noted: what it means for a block or a run, and for what a crash may leave.
use Rattle.std.proofs.Common.{◌≡◌, ◌≢◌, ◌<◌, ℕ, zero, suc, ◌*◌, Bool, true, false, List, [], ◌∷◌, length, take, drop, set, refl, sym, ◌∙◌, subst, inl, inr, ⊎_elim, ap, add-zero, arith, take_all, Result, Ok, Err, is_ok, OnOk, Option, Some}
use Rattle.std.proofs.lemmas.Result.{on_ok_weaker}
use Rattle.jb_disk.specs.Image.{Image, block, Torn, HasShape}
use Rattle.jb_disk.specs.Runs.{IsOutside, ReadsRun, WroteRun, TornRun, part}
use Rattle.jb_disk.specs.Time.{Goes}
use Rattle.jb_disk.specs.Events.{SystemCall, Asked, Gave, Flushed, Measured, InBlocks, Makes, Agree, LeftBy, Leaves, LeftFrom, IsHonestFile, NoneAfter, NoneFailed, IsUnfailed}
use Rattle.jb_disk.specs.Faults.{CountsFault, CountsOne, most_faults}
use Rattle.jb_disk.specs.Kept.{IsDiskKept, OnlyReads}
use Rattle.jb_disk.specs.RecordLaws.{torn_of_wrote, newest_left}
use Rattle.jb_disk.specs.Failures.{TellsCall, call_of, told_after}
use Rattle.jb_disk.specs.OneCall.{Called}
use Rattle.jb_disk.specs.declared.failure.Failure.{Failure}
use Rattle.jb_disk.specs.declared.failure.FailureReason.{FailureReason}
use Rattle.jb_disk.specs.declared.fault.Fault.{Fault}
use Rattle.jb_disk.proofs.RunWrites.{wrote_run-more, wrote_run-none, wrote_run-one}

-- ---- a run of one block

part_one : (size : ℕ) (bytes : List ℕ) → length bytes ≡ size → part size 0 bytes ≡ bytes
part_one size bytes long =
    ap (λ n. take size (drop n bytes)) (let h : size * 0 ≡ 0 = omega arith in h)
    ∙ take_all size bytes (omega (arith, long))

-- a run of one block that is read is the block
pub read_one : (size place : ℕ) (c : Image) (bytes : List ℕ) → length bytes ≡ size → ReadsRun size 1 place c bytes → bytes ≡ block c place
read_one size place c bytes long found =
    sym (part_one size bytes long) ∙ found 0 (omega arith) ∙ ap (block c) (add-zero place)

others : (place p : ℕ) → p ≢ place → IsOutside 1 place p
others place p other k below = λ same. other (omega (arith, below, same))

-- one that is torn is a torn block
pub torn_one : (size place : ℕ) (bytes : List ℕ) (old new : Image) → length bytes ≡ size → TornRun size 1 place bytes old new → Torn place bytes old new
torn_one size place bytes old new long torn = record {
  count = torn.count;
  elsewhere = λ p other. torn.elsewhere p (others place p other);
  size = torn.sizes place;
  sectors = λ k. rw (add-zero place, part_one size bytes long) at (torn.sectors 0 k (omega arith));
}

-- one that is written is a block that is set
pub wrote_one : (size place : ℕ) (bytes : List ℕ) (old new : Image) → length bytes ≡ size → place < length old → WroteRun size 1 place bytes old new → new ≡ set old place bytes
wrote_one size place bytes old new long inside wrote =
    wrote_run-one size 1 place bytes old new (set old place bytes) wrote
    (wrote_run-more size 0 place bytes old old (set old place bytes) (omega (arith, inside)) (wrote_run-none size place bytes old) (rw (add-zero place, part_one size bytes long) refl))

-- ---- the calls of a disk whose record grows

module _ {D : Type 0} (size : D → ℕ) (content : ℕ → Image) (events : D → List SystemCall) where
  -- what a crash may leave goes on as the call lets it
  pub goes_event : (step : Image → Image → Type 0) (old new : D) (e : SystemCall) → size new ≡ size old → events new ≡ e ∷ events old
      → ((c : Image) → LeftBy (size old) e (content (length (events old))) (Leaves (size old) content (events old)) c
      → (d : Image) × Leaves (size old) content (events old) d × step d c)
      → Goes (λ d. Leaves (size d) content (events d)) (λ d. length (events d)) (λ d. LeftFrom (size d) content (events d)) step old new
  goes_event step old new e same noted comes = record {
    crash = λ c now. comes c (rw (same, noted) at now);
    later = omega (arith, ap length noted);
    nothing_else = λ t c earlier left. rw (same, noted) (⊎_elim (λ now. inr now.1) inl (rw (same, noted) at left));
    keeps = λ t c earlier left. rw (same, noted) (inr left);
  }

-- whether a call of the system succeeded
abbrev answer_of : SystemCall → Bool
answer_of (Asked at ok bytes) = ok
answer_of (Gave at ok bytes) = ok
answer_of (Flushed ok) = ok
answer_of (Measured len) = true

-- a call that succeeded was no write or sync that failed
passed-ok : (e : SystemCall) (old new : ℕ) → CountsOne (answer_of e) old new → old < most_faults → new ≡ old → IsUnfailed e
passed-ok (Asked at ok bytes) old new counted few same = tt
passed-ok (Gave at true bytes) old new counted few same = tt
passed-ok (Gave at false bytes) old new counted few same = omega (arith, counted, few, same)
passed-ok (Flushed true) old new counted few same = tt
passed-ok (Flushed false) old new counted few same = omega (arith, counted, few, same)
passed-ok (Measured len) old new counted few same = tt

-- what a call keeps, counts and leaves to be asked
pub kept_event : {D : Type 0} (size count faults : D → ℕ) (content : ℕ → Image) (events : D → List SystemCall) (old new : D) (r : Result Unit Fault) (e : SystemCall)
    → size new ≡ size old → count new ≡ count old → events new ≡ e ∷ events old → CountsFault r (faults old) (faults new) → CountsOne (answer_of e) (faults old) (faults new)
    → IsDiskKept size count faults (λ d. IsHonestFile (size d) (count d) content (events d)) (λ d. NoneFailed (events d)) (λ d. NoneAfter (events d)) (CountsFault r) old new
kept_event size count faults content events old new r e same_size same_count noted counted one = record {
  same_size = same_size;
  same_count = same_count;
  was_honest = λ honest. let told = rw (same_size, same_count, noted) at honest in (told.0, told.1.0);
  counted = counted;
  asked = λ few go well. subst NoneAfter (sym noted) go;
  going = λ few go same. subst NoneFailed (sym noted) (passed-ok e (faults old) (faults new) one few same, go);
}

-- a read leaves all that could be left, and no write or sync fails by it
pub reads_event : {D : Type 0} (size : D → ℕ) (content : ℕ → Image) (events : D → List SystemCall) (old new : D) (at : ℕ) (ok : Bool) (bytes : List ℕ)
    → size new ≡ size old → events new ≡ Asked at ok bytes ∷ events old
    → OnlyReads (λ d. Leaves (size d) content (events d)) (λ d. NoneFailed (events d)) old new
reads_event size content events old new at ok bytes same_size noted = record {
  pending = λ c left. rw (same_size, noted) left;
  going = λ go. subst NoneFailed (sym noted) (tt, go);
}

-- ---- the newest call of a record

-- what holds of a call that succeeded
on_ok : (P : Type 0) (r : Result Unit Fault) (ok : Bool) → is_ok r ≡ ok → (ok ≡ true → P) → OnOk r P
on_ok P (Ok x) true is holds = holds refl
on_ok P (Ok x) false is holds = absurd (let h : ⊥ = cc in h)
on_ok P (Err e) ok is holds = tt

module _ (size count : ℕ) (content : ℕ → Image) (older events : List SystemCall) where
  abbrev old : Image
  old = content (length older)

  abbrev new : Image
  new = content (length events)

  -- what the newest call made
  made : (e : SystemCall) → events ≡ e ∷ older → IsHonestFile size count content events → Makes size e old new
  made e are honest =
      subst (λ es. Makes size e old (content (length es))) (sym are) (subst (Agree size content) are honest.1).1

  -- the record before it
  agreed : (e : SystemCall) → events ≡ e ∷ older → IsHonestFile size count content events → Agree size content older
  agreed e are honest = (subst (Agree size content) are honest.1).0

  tears : (at : ℕ) (ok : Bool) (bytes : List ℕ) → ((t : ℕ) → HasShape count size (content t)) → Makes size (Gave at ok bytes) old new → InBlocks size at bytes (λ place n. TornRun size n place bytes old new)
  tears at true bytes shapes makes = λ place n here long. torn_of_wrote count size n place bytes old new (shapes (length older)) (shapes (length events)) (makes place n here long)
  tears at false bytes shapes makes = makes

  -- a call at a place
  module _ (place at : ℕ) (ok : Bool) (bytes : List ℕ) (here : at ≡ place * size) (honest : IsHonestFile size count content events) where
    pub found_run : (n : ℕ) (r : Result Unit Fault) → is_ok r ≡ ok → length bytes ≡ size * n → events ≡ Asked at ok bytes ∷ older → OnOk r (ReadsRun size n place old bytes)
    found_run n r is long are = on_ok (ReadsRun size n place old bytes) r ok is (λ yes. (rw yes at (made (Asked at ok bytes) are honest)).1 place n here long)

    pub found_block : (r : Result Unit Fault) → is_ok r ≡ ok → length bytes ≡ size → events ≡ Asked at ok bytes ∷ older → OnOk r (bytes ≡ block old place)
    found_block r is long are = on_ok_weaker r (read_one size place old bytes long) (found_run 1 r is (omega (arith, long)) are)

    pub written_block : (r : Result Unit Fault) → is_ok r ≡ ok → length bytes ≡ size → place < count → events ≡ Gave at ok bytes ∷ older → OnOk r (new ≡ set old place bytes)
    written_block r is long inside are = on_ok (new ≡ set old place bytes) r ok is
        (λ yes. wrote_one size place bytes old new long (omega (arith, inside, (honest.0 (length older)).blocks)) ((rw yes at (made (Gave at ok bytes) are honest)) place 1 here (omega (arith, long))))

    pub torn_file : (n : ℕ) → length bytes ≡ size * n → events ≡ Gave at ok bytes ∷ older → TornRun size n place bytes old new
    torn_file n long are = tears at ok bytes honest.0 (made (Gave at ok bytes) are honest) place n here long

    pub torn_block : length bytes ≡ size → events ≡ Gave at ok bytes ∷ older → Torn place bytes old new
    torn_block long are = torn_one size place bytes old new long (torn_file 1 (omega (arith, long)) are)

  -- what a sync leaves could be left before it
  comes_synced : (ok : Bool) (before : Image → Type 0) (c : Image) → before old → LeftBy size (Flushed ok) old before c → (d : Image) × before d × (c ≡ d)
  comes_synced true before c stays left = (old, stays, left)
  comes_synced false before c stays left = (c, left, refl)

  pub synced_from : (ok : Bool) (c : Image) → events ≡ Flushed ok ∷ older → IsHonestFile size count content events
      → LeftBy size (Flushed ok) old (Leaves size content older) c → (d : Image) × Leaves size content older d × (c ≡ d)
  synced_from ok c are honest left =
      comes_synced ok (Leaves size content older) c (newest_left count size content honest.0 older (agreed (Flushed ok) are honest)) left

-- ---- what is told of a call

module _ (answer : Result Unit FailureReason) (ok : Bool) (old new : Option Failure) (same : ok ≡ is_ok answer) where
  -- of calls of which the first was made with this answer
  pub tells_run : (call : ℕ → Called) (k : ℕ) → new ≡ told_after (call_of (call 0)) answer old → (ok ≡ false → k ≡ 0)
      → TellsCall (call k) ok old new
  tells_run call k is first = tells-by answer ok same is first
    where
      tells-by : (answer : Result Unit FailureReason) (ok : Bool) → ok ≡ is_ok answer → new ≡ told_after (call_of (call 0)) answer old
          → (ok ≡ false → k ≡ 0) → TellsCall (call k) ok old new
      tells-by (Ok tt) true same is first = is
      tells-by (Ok tt) false same is first = absurd (let h : ⊥ = cc in h)
      tells-by (Err reason) true same is first = absurd (let h : ⊥ = cc in h)
      tells-by (Err reason) false same is first =
          (reason, subst (λ j. new ≡ Some (record { call = call_of (call j); reason = reason })) (sym (first refl)) is)

  -- of a call that was made with this answer
  pub tells : (call : Called) → new ≡ told_after (call_of call) answer old → TellsCall call ok old new
  tells call is = tells_run (λ _. call) 0 is (λ _. refl)
