use Rattle.std.proofs.Common.{◌≡◌, ◌++◌}
use Rattle.jb_commands.specs.Cat.{pair_text}
use Rattle.jb_commands.specs.Lines.{upto}
use Rattle.jb_commands.proofs.streams.catting.put_pairs.Given as goal

abbrev pub invariant-loop-k : goal.invariant-loop-k
invariant-loop-k l = l.text.items ≡ l.fn.text.items ++ upto (pair_text l.row) l.k
