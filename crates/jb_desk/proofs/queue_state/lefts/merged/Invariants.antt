use Rattle.std.proofs.Common.{◌≡◌, ◌+◌, length, map}
use Rattle.std.specs.List.{sum_by}
use Rattle.jb_cost.specs.Pieces.{joined}
use Rattle.jb_desk.specs.Seats.{stops_left, made_left}
use Rattle.jb_desk.proofs.queue_state.lefts.merged.Given as goal

-- the shares so far are merged, and the stops so far are together
abbrev pub invariant-loop-left : goal.invariant-loop-left
invariant-loop-left g l = record {
  handle_parts : l.all_handles.parts ≡ l.initial.all_handles.parts + length l.yielded;
  handles : l.all_handles.amount ≡ l.initial.all_handles.amount + sum_by stops_left l.yielded;
  made : l.all ≡ joined (map made_left l.yielded);
  many : l.all_handles.amount ≡ l.initial.all_handles.amount + length l.all;
}
