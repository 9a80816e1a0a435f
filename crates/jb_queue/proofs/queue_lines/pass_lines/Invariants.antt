use Rattle.std.proofs.Common.{◌≡◌, drop}
use Rattle.jb_text.specs.Parts.{lines}
use Rattle.jb_queue.proofs.queue_lines.pass_lines.Given as goal

-- so many lines are passed
abbrev pub invariant-lines : goal.invariant-lines
invariant-lines l = lines l.rest ≡ drop l.i (lines l.fn.text)
