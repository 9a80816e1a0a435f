-- What is kept over several calls, and how their faults are counted.
use Rattle.std.proofs.Common.{ℕ, Result, Ok, Err, refl, sym, ◌∙◌, subst, IsErr, ◌<◌}
use Rattle.jb_disk.specs.Faults.{CountsFault, CountsNone, MoreFaults, most_faults}
use Rattle.jb_disk.specs.Image.{Image}
use Rattle.jb_disk.specs.Kept.{IsDiskKept, OnlyReads}

module _ {D : Type 0} {size count faults : D → ℕ} {honest may_go_on well_asked : D → Type 0} where
  -- no call at all
  pub kept_same : {counts : ℕ → ℕ → Type 0} (disk : D) → counts (faults disk) (faults disk) → IsDiskKept size count faults honest may_go_on well_asked counts disk disk
  kept_same disk counted = record {
    same_size = refl;
    same_count = refl;
    was_honest = λ is. is;
    counted = counted;
    asked = λ few go well. well;
    going = λ few go same. go;
  }

  -- a call after calls that succeeded: what all of them count is told anew
  pub kept_on : {next both : ℕ → ℕ → Type 0} {old mid new : D} → IsDiskKept size count faults honest may_go_on well_asked CountsNone old mid
      → IsDiskKept size count faults honest may_go_on well_asked next mid new → both (faults old) (faults new) → IsDiskKept size count faults honest may_go_on well_asked both old new
  kept_on {old = old} {mid = mid} first second counted =
      let still : faults old < most_faults → faults mid < most_faults = λ few. subst (λ n. n < most_faults) (sym first.counted) few in
      record {
        same_size = second.same_size ∙ first.same_size;
        same_count = second.same_count ∙ first.same_count;
        was_honest = λ is. first.was_honest (second.was_honest is);
        counted = counted;
        asked = λ few go well. second.asked (still few) (first.going few go first.counted) (first.asked few go well);
        going = λ few go same. second.going (still few) (first.going few go first.counted) (same ∙ sym first.counted);
      }

  -- calls that succeeded
  pub kept_ok : {old mid new : D} → IsDiskKept size count faults honest may_go_on well_asked CountsNone old mid
      → IsDiskKept size count faults honest may_go_on well_asked CountsNone mid new → IsDiskKept size count faults honest may_go_on well_asked CountsNone old new
  kept_ok first second = kept_on first second (second.counted ∙ first.counted)

  -- one that failed, after calls that succeeded, and what called it fails too
  pub kept_err : {T E : Type 0} {old mid new : D} (result : Result T E) → IsErr result → IsDiskKept size count faults honest may_go_on well_asked CountsNone old mid
      → IsDiskKept size count faults honest may_go_on well_asked MoreFaults mid new → IsDiskKept size count faults honest may_go_on well_asked (CountsFault result) old new
  kept_err {new = new} (Ok value) failed first second = absurd (let h : ⊥ = cc in h)
  kept_err {new = new} (Err fault) failed first second = kept_on first second (subst (λ n. MoreFaults n (faults new)) first.counted second.counted)

  -- what is counted is told in another way
  pub kept_as : {counts other : ℕ → ℕ → Type 0} {old new : D} → IsDiskKept size count faults honest may_go_on well_asked counts old new → other (faults old) (faults new)
      → IsDiskKept size count faults honest may_go_on well_asked other old new
  kept_as kept counted = record {
    same_size = kept.same_size;
    same_count = kept.same_count;
    was_honest = kept.was_honest;
    counted = counted;
    asked = kept.asked;
    going = kept.going;
  }

module _ {D : Type 0} {may_leave : D → Image → Type 0} {may_go_on : D → Type 0} where
  -- no read at all
  pub reads_none : (disk : D) → OnlyReads may_leave may_go_on disk disk
  reads_none disk = record { pending = λ c left. left; going = λ go. go }

  -- reads after reads
  pub reads_on : {old mid new : D} → OnlyReads may_leave may_go_on old mid → OnlyReads may_leave may_go_on mid new → OnlyReads may_leave may_go_on old new
  reads_on first second = record { pending = λ c left. second.pending c (first.pending c left); going = λ go. second.going (first.going go) }
