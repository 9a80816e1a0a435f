use Rattle.std.proofs.Common.{◌∷◌, [], ap, sym, ◌∙◌, length, ◌++◌, arith}
use Rattle.std.proofs.lemmas.List.{length-append}
use Rattle.std.proofs.lemmas.List.Sums.{sum_by-append}
use Rattle.jb_desk.specs.Seats.{stops_left, made_left}
use Rattle.jb_desk.proofs.SeatStops.{joined-more}
use Rattle.jb_desk.proofs.queue_state.lefts.merged.Goals as goal

pub loop-left-preserved : goal.loop-left-preserved
loop-left-preserved g c =
    let before = c.loop-left.invariant in
    let left = c.in-Some.left in
    let longer = length-append c.loop-left.yielded (left ∷ []) in
    let stops = sum_by-append stops_left c.loop-left.yielded (left ∷ []) in
    let joins = ap length c.join.ensures in
    let sum = length-append c.loop-left.all left.made in
    record {
      handle_parts = omega (arith, before.handle_parts, c.merge.ensures.parts, left.part_of_handles, longer);
      handles = omega (arith, before.handles, c.merge.ensures.amount, stops);
      made = c.join.ensures ∙ ap (λ l. l ++ left.made) before.made ∙ sym (joined-more made_left c.loop-left.yielded left);
      many = omega (arith, before.many, c.merge.ensures.amount, left.all_made, joins, sum);
    }
