use Rattle.std.proofs.Common.{◌≡◌, ◌+◌, ◌≤◌, ◌++◌, All, length, map, vec_len, vec_capacity}
use Rattle.jb_cost.specs.Pieces.{joined}
use Rattle.jb_desk.specs.Seats.{made_left}
use Rattle.jb_journal.specs.Gather.{answers_of}
use Rattle.jb_journal.specs.Run.{HasAllSeen, stops_of_worked}
use Rattle.jb_journal.proofs.thread_results.ThreadResults.add_all.Given as goal

-- the answers of the workers so far are added, and what their seats left; there is room for those of the others
abbrev pub invariant-loop-worked : goal.invariant-loop-worked
invariant-loop-worked g l = record {
  answers : l.self.answers.items ≡ joined (map answers_of l.yielded);
  stops : joined (map made_left l.self.lefts.items) ≡ joined (map made_left l.initial.self.lefts.items) ++ joined (map stops_of_worked l.yielded);
  seen : All (HasAllSeen l.self.seen) l.yielded;
  lefts_room : vec_capacity l.self.lefts ≡ vec_capacity l.initial.self.lefts;
  lefts : vec_len l.self.lefts ≤ vec_len l.initial.self.lefts + length l.yielded;
  answers_room : vec_capacity l.self.answers ≡ vec_capacity l.initial.self.answers;
  given : vec_len l.self.answers ≤ length l.yielded;
}
