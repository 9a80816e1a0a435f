use Rattle.std.proofs.Common.{sym, ◌∙◌, arith}
use Rattle.jb_text.specs.Parts.{lines}
use Rattle.jb_queue.proofs.QueueHandles.{drop-more, drop-past}
use Rattle.jb_queue.proofs.queue_lines.pass_lines.Goals as goal

pub lines-preserved : goal.lines-preserved
lines-preserved c = sym (drop-more c.lines.i (lines c.args.text.now) _ _ (sym c.lines.invariant ∙ c.in-Some.ensures.parts))

pub returns-in-None : goal.returns-in-None
returns-in-None c = c.in-None.ensures ∙ sym (drop-past c.lines.i c.args.passed (lines c.args.text.now) (sym c.lines.invariant ∙ c.in-None.ensures) (omega arith))
