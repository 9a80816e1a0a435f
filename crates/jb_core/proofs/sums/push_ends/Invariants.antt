use Rattle.std.proofs.Common.{◌≡◌, ◌+◌, ◌≤◌, ◌++◌, map, take, length, vec_len, vec_capacity}
use Rattle.jb_core.proofs.sums.push_ends.Given as goal

abbrev pub invariant-loop-end : goal.invariant-loop-end
invariant-loop-end l = record {
  items : l.ends.items ≡ l.initial.ends.items ++ map (λ end. l.base + end) (take l.end-index l.more);
  room : vec_len l.ends + length l.more ≤ vec_capacity l.ends + l.end-index;
}
