use Rattle.std.proofs.Common.{rules, ◌≡◌}
use Rattle.std.proofs.lemmas.List.Sorted.{IsNonDecreasingBy-from_sort_by_key}
use Rattle.jb_image.proofs.SharedBlocks.{shares-sorted}
use Rattle.jb_image.proofs.shared.lowest_shared.Goals as goal

pub first_shared-requires : goal.first_shared-requires
first_shared-requires c = rw c.as_slice.ensures.value (record { rising = IsNonDecreasingBy-from_sort_by_key (λ e. e.first) _ c.sort_unstable_by_key.ensures.sorted (λ a r q k. search rules) })

pub returns : goal.returns
returns c =
    let copied : c.in_ok-rising.rising.items ≡ c.args.list.now = search rules in
    let moved = rw copied at c.sort_unstable_by_key.ensures.permutation in
    shares-sorted c.args.list.now c.sort_unstable_by_key.new.self.items moved c.first_shared.result (rw c.as_slice.ensures.value at c.first_shared.ensures)
