use Rattle.std.proofs.Common.{◌≡◌, ℕ, ◌&&◌, not, nat_eq, take, nat_cmp}
use Rattle.std.specs.List.{list_any}
use Rattle.std.specs.BTreeSet.{contains}
use Rattle.jb_cost.proofs.new_homes.part.Given as goal

abbrev pub invariant-loop-home : goal.invariant-loop-home
invariant-loop-home l = (q : ℕ) → contains nat_cmp l.homes q ≡ (contains nat_cmp l.initial.homes q && not (list_any (nat_eq q) (take l.home-index l.fresh)))
