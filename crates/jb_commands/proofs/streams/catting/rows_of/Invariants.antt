use Rattle.std.proofs.Common.{◌≡◌}
use Rattle.jb_commands.specs.Cat.{rows_text}
use Rattle.jb_commands.proofs.streams.catting.rows_of.Given as goal

abbrev pub invariant-loop-k : goal.invariant-loop-k
invariant-loop-k l = l.text.items ≡ rows_text l.at l.bytes l.k
