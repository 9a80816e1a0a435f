use Rattle.std.proofs.Common.{refl, arith}
use Rattle.jb_tool.proofs.TrailBlocks.{few-more, goes-more, sum-more}
use Rattle.jb_tool.proofs.loading.counting.blocks_of.Goals as goal

pub loop-entry-init : goal.loop-entry-init
loop-entry-init c = record { left = λ past follows. record { first = 0; least = 0; follows = follows; few = omega arith }; sum = refl }

pub overflow_add-blocks : goal.overflow_add-blocks
overflow_add-blocks c =
    let few = few-more c.args.trail.now c.loop-entry.entry-index c.loop-entry-test.true c.loop-entry.blocks c.requires.0 c.widened-blocks.result c.widened-blocks.ensures.value
    c.widened-blocks.ensures.narrow.0 c.widened-blocks.ensures.narrow.1 (c.loop-entry.invariant.left c.requires.0 c.requires.1) in
    omega (arith, few)

pub loop-entry-preserved : goal.loop-entry-preserved
loop-entry-preserved c = record {
  left = λ past follows. goes-more c.args.trail.now c.loop-entry.entry-index c.loop-entry-test.true c.loop-entry.blocks past c.widened-blocks.result c.widened-blocks.ensures.value
      c.widened-blocks.ensures.narrow.0 (c.loop-entry.invariant.left past follows);
  sum = sum-more c.args.trail.now c.loop-entry.entry-index c.loop-entry-test.true c.loop-entry.blocks c.requires.0 c.widened-blocks.result c.widened-blocks.ensures.value c.loop-entry.invariant.sum;
}
