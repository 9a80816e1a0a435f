use Rattle.std.proofs.Common.{◌+◌, ◌≤◌, length, vec_len, vec_capacity}
use Rattle.jb_cost.proofs.MeetHomes.{Meets}
use Rattle.jb_cost.proofs.new_homes.meet.Given as goal

abbrev pub invariant-loop-home : goal.invariant-loop-home
invariant-loop-home l = record {
  meets : Meets l.initial.homes l.homes l.fresh.items l.home-items l.home-index l.copies l.frees;
  room : vec_len l.fresh + length l.home-items ≤ vec_capacity l.fresh + l.home-index;
}
