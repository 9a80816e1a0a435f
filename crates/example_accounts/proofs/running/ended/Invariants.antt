use Rattle.std.proofs.Common.{◌≡◌, All, length, map, vec_len, vec_capacity}
use Rattle.jb_journal.specs.Names.{IsFirstPart}
use Rattle.example_accounts.specs.Conserved.{ended_of}
use Rattle.example_accounts.proofs.running.ended.Given as goal

-- what the workers so far have seen is posted, and how they ended is told; there is room for the others
abbrev pub invariant-loop-moved : goal.invariant-loop-moved
invariant-loop-moved g l = record {
  kept : l.postings ≡ l.initial.postings;
  seen : All (λ moved. IsFirstPart moved.seen l.initial.postings) l.yielded;
  ended : l.outcomes.items ≡ map ended_of l.yielded;
  given : vec_len l.outcomes ≡ length l.yielded;
  room : vec_capacity l.outcomes ≡ vec_capacity l.initial.outcomes;
}
