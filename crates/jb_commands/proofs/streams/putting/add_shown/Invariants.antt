use Rattle.std.proofs.Common.{◌≡◌, ◌++◌}
use Rattle.jb_commands.specs.Lines.{shown_at, upto}
use Rattle.jb_commands.proofs.streams.putting.add_shown.Given as goal

abbrev pub invariant-loop-at : goal.invariant-loop-at
invariant-loop-at l = l.line.items ≡ l.fn.line.items ++ upto (shown_at l.name) l.at
