use Rattle.std.proofs.Common.{rules}
use Rattle.jb_image.proofs.SharedBlocks.{found-here, found-none}
use Rattle.jb_image.proofs.shared.first_shared.Goals as goal

pub returns-then-reaches : goal.returns-then-reaches
returns-then-reaches c =
    found-here c.args.rising.now c.loop-extent.before c.loop-extent.extent-index _ c.loop-extent-test.true (search rules) (search rules) c.loop-extent.invariant c.requires.rising

pub returns : goal.returns
returns c = found-none c.args.rising.now c.loop-extent.before c.loop-extent.extent-index (search rules) c.loop-extent.invariant c.requires.rising
