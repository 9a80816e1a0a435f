-- One call more of a disk whose calls are known.
use Rattle.std.proofs.Common.{◌≡◌, ◌≤◌, ℕ, suc, Bool, sym, subst}
use Rattle.jb_disk.specs.OneCall.{Called}
use Rattle.jb_disk.specs.Kept.{IsDiskKept}
use Rattle.jb_disk.specs.Image.{Image}
use Rattle.jb_disk.specs.Throughout.{AllHave}
use Rattle.jb_disk.specs.Time.{LeavesOnly}
use Rattle.jb_disk.proofs.CallRuns.{at_the_end}
use Rattle.proof_clients.specs.CutCalls.{Made, WereMade, one}
use Rattle.proof_clients.specs.Traced.{traced}
use Rattle.proof_clients.specs.declared.traced.TracedDisk.{TracedDisk}

-- what the call keeps of the disk, it keeps of the one that knows its calls
pub traced-kept : {D F : Type 0} {size count faults : D → ℕ} {honest may_go_on well_asked is_first : D → Type 0} {own : Called → D → D → Bool → Type 0} {counts : ℕ → ℕ → Type 0} {old new : TracedDisk D F}
    → (call : Called) (ok : Bool) → IsDiskKept size count faults honest may_go_on well_asked counts (traced old) (traced new) → own call (traced old) (traced new) ok
    → IsDiskKept {D = TracedDisk D F} (λ t. size (traced t)) (λ t. count (traced t)) (λ t. faults (traced t)) (λ t. honest (traced t)) (λ t. Unit {0}) (λ t. WereMade own is_first (traced t)) counts old new
traced-kept {old = old} {new = new} call ok kept made = record {
  same_size = kept.same_size;
  same_count = kept.same_count;
  was_honest = kept.was_honest;
  counted = kept.counted;
  asked = λ few go well. (suc well.0, one well.0 (traced old) (traced new) call ok well.1 made);
  going = λ few go same. tt;
}

-- what is left of a disk that another one shows
pub leaves-through : {E D : Type 0} (shown : E → D) (moment : D → ℕ) (left_since : D → ℕ → Image → Type 0) (old new : E) (first last : D) (P : D → Image → Type 0)
    → shown old ≡ first → last ≡ shown new → LeavesOnly (λ e. moment (shown e)) (λ e. left_since (shown e)) old new (P (shown old)) → LeavesOnly moment left_since first last (P first)
leaves-through shown moment left_since old new first last P begins ends run =
    subst (λ d. LeavesOnly moment left_since d last (P d)) begins (subst (λ d. LeavesOnly moment left_since (shown old) d (P (shown old))) (sym ends) (record { later = run.later; each = run.each; before = run.before }))

-- the same of a crash at the end
pub leaves-now : {E D : Type 0} (shown : E → D) (may_leave : D → Image → Type 0) (moment : D → ℕ) (left_since : D → ℕ → Image → Type 0) (old new : E) (first last : D) (P : D → Image → Type 0)
    → shown old ≡ first → last ≡ shown new → LeavesOnly (λ e. moment (shown e)) (λ e. left_since (shown e)) old new (P (shown old))
    → ((t : ℕ) (c : Image) → t ≤ moment last → may_leave last c → left_since last t c) → AllHave may_leave last (P first)
leaves-now shown may_leave moment left_since old new first last P begins ends run counts_now =
    let all = leaves-through shown moment left_since old new first last P begins ends run in
    record { each = at_the_end may_leave moment left_since first last (P first) all counts_now }
