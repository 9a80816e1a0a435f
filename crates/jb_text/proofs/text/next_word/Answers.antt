use Rattle.std.proofs.Common.{arith}
use Rattle.jb_text.proofs.PartByPart.{rest_all}
use Rattle.jb_text.proofs.Splits.{words-last, words-more, part-lengths}
use Rattle.jb_text.proofs.text.next_word.Goals as goal

pub returns-in-empty-clause-words : goal.returns-in-empty-clause-words
returns-in-empty-clause-words c = words-last c.args.text.now c.part.result.0.now c.part.result.1.now c.part.ensures.front c.part.ensures.back c.in-empty.len_below

pub returns-in-len1-up-clause-words : goal.returns-in-len1-up-clause-words
returns-in-len1-up-clause-words c = words-more c.args.text.now _ c.part.result.1.now _ c.part.ensures.front c.part.ensures.back (rest_all c.part.result.1.now 1) c.in-len1-up.len_at_least

pub returns-in-len1-up-clause-shorter : goal.returns-in-len1-up-clause-shorter
returns-in-len1-up-clause-shorter c =
    omega (arith, part-lengths 32 c.args.text.now _ _ _ c.part.ensures.front c.part.ensures.back (rest_all c.part.result.1.now 1), c.in-len1-up.len_at_least)
