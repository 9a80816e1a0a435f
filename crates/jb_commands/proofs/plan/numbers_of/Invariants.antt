use Rattle.std.proofs.Common.{◌≡◌, take}
use Rattle.jb_commands.proofs.plan.numbers_of.Given as goal

abbrev pub invariant-loop-bound : goal.invariant-loop-bound
invariant-loop-bound l = l.numbers.items ≡ take l.bound-index l.bounds
