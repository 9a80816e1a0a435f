use Rattle.std.proofs.Common.{◌≡◌, ℕ, take, nat_cmp}
use Rattle.std.specs.BTreeSet.{contains}
use Rattle.std.specs.FinMap as map
use Rattle.jb_handle.specs.Words.{is_copied, is_freed}
use Rattle.jb_cost.specs.NewHomes.{later}
use Rattle.jb_cost.proofs.last_words.LastWords.put_all.Given as goal

abbrev pub invariant-loop-home : goal.invariant-loop-home
invariant-loop-home l = record {
  copies : (q : ℕ) → contains nat_cmp l.self.copies q ≡ later is_copied (map.find nat_cmp q (take l.home-index l.home-items)) (contains nat_cmp l.initial.self.copies q);
  frees : (q : ℕ) → contains nat_cmp l.self.frees q ≡ later is_freed (map.find nat_cmp q (take l.home-index l.home-items)) (contains nat_cmp l.initial.self.frees q);
}
