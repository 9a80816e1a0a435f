use Rattle.std.proofs.Common.{rules}
use Rattle.jb_image.proofs.WordBytes.{word-ends, word-goes, word-last, word-opens}
use Rattle.jb_image.proofs.extents.next_listed.Goals as goal

pub loop-at-init : goal.loop-at-init
loop-at-init c = word-opens c.args.text.now

pub returns-then-is_between-clause-words : goal.returns-then-is_between-clause-words
returns-then-is_between-clause-words c =
    rw (c.split_at.ensures.front, c.split_at-then-is_between.ensures.back)
    (word-ends c.args.text.now c.loop-at.at c.loop-at-test.true (search rules) c.loop-at.invariant)

pub loop-at-preserved : goal.loop-at-preserved
loop-at-preserved c = word-goes c.args.text.now c.loop-at.at c.loop-at-test.true (search rules) c.loop-at.invariant

pub returns-clause-words : goal.returns-clause-words
returns-clause-words c = word-last c.args.text.now c.loop-at.at c.loop-at-test.false c.loop-at.invariant
