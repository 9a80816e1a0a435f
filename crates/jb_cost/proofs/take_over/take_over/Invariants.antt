use Rattle.std.proofs.Common.{◌≡◌, ◌+◌, ◌<◌, ◌≤◌, ℕ, length, take, nat_cmp}
use Rattle.std.specs.BTreeMap.{get}
use Rattle.std.specs.FinMap as map
use Rattle.jb_cost.specs.LastTouch.{owned_at, OwnsNoMore, AreOwners, later_touch}
use Rattle.jb_cost.specs.Spans.{KeepSpans}
use Rattle.jb_cost.proofs.take_over.take_over.Given as goal

-- the entries so far are those of the new handle, and it owns their homes
abbrev pub invariant-loop-home : goal.invariant-loop-home
invariant-loop-home l = record {
  at : l.handle ≡ length l.fn.owned.items;
  number : length l.owned.items ≡ l.handle + 1;
  owners : AreOwners l.owned.items l.last;
  spans : KeepSpans l.fn.owned.items l.owned.items l.fn.spans.items l.spans.items;
  less : (k : ℕ) → k < length l.fn.owned.items → OwnsNoMore (owned_at l.fn.owned.items k) (owned_at l.owned.items k);
  follows : (q : ℕ) → get nat_cmp l.last q ≡ later_touch l.handle (map.find nat_cmp q (take l.home-index l.home-items)) (get nat_cmp l.fn.last q);
  few : (owned_at l.owned.items l.handle).copies + (owned_at l.owned.items l.handle).frees ≤ l.home-index;
}
