use Rattle.std.proofs.Common.{All}
use Rattle.example_store.specs.Commands.{HasKey}
use Rattle.example_store.proofs.commands.Given as goal

-- each command names a key
abbrev pub invariant-loop-line : goal.invariant-loop-line
invariant-loop-line l = All HasKey l.commands.items
