use Rattle.std.proofs.Common.{◌≡◌, ℕ, take, nat_cmp}
use Rattle.std.specs.BTreeSet.{contains}
use Rattle.jb_handle.specs.Words.{word, is_copied, is_freed}
use Rattle.jb_cost.proofs.group.group_cost.Given as goal

abbrev pub invariant-loop-handle : goal.invariant-loop-handle
invariant-loop-handle l = record {
  copies : (q : ℕ) → contains nat_cmp l.last.copies q ≡ is_copied (word (take l.handle-index l.handles) q);
  frees : (q : ℕ) → contains nat_cmp l.last.frees q ≡ is_freed (word (take l.handle-index l.handles) q);
}
