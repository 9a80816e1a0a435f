use Rattle.jb_text.proofs.PartByPart.{puts_more, within_more}
use Rattle.jb_text.proofs.putting.put.Goals as goal

pub loop-done-preserved : goal.loop-done-preserved
loop-done-preserved g c = (
  puts_more (g.W.Write.contents c.args.writer.now) (g.W.Write.contents c.loop-done.writer) (g.W.Write.contents c.write.new.self)
      c.args.text.now c.loop-done.done c.in-Ok.n c.loop-done.invariant.0 c.in-Ok.ensures.bytes,
  within_more c.args.text.now c.loop-done.done c.in-Ok.n c.loop-done.invariant.1 c.in-Ok.ensures.bound,
)
