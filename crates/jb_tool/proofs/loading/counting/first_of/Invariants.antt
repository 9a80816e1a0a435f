use Rattle.std.proofs.Common.{◌≡◌, take}
use Rattle.jb_tool.specs.FirstRefused.{first_refused}
use Rattle.jb_tool.proofs.loading.counting.first_of.Given as goal

-- the earliest of those so far
abbrev pub invariant-loop-refused : goal.invariant-loop-refused
invariant-loop-refused l = l.first ≡ first_refused (take l.refused-index l.answers)
