use Rattle.std.specs.Io.KnownBytes.{Appends}
use Rattle.jb_commands.specs.Lines.{shown_at, upto}
use Rattle.jb_commands.proofs.streams.putting.put_shown.Given as goal

abbrev pub invariant-loop-at : goal.invariant-loop-at
invariant-loop-at g l = Appends (g.W.Write.contents l.initial.writer) (g.W.Write.contents l.writer) (upto (shown_at l.name) l.at)
