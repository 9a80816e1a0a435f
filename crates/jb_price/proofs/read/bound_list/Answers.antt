use Rattle.std.proofs.Common.{◌∷◌, sym, option_copied}
use Rattle.jb_text.specs.Parts.{words, words_in, number_of}
use Rattle.jb_text.proofs.LineLeft.{none-left}
use Rattle.jb_price.proofs.CertLines.{EachTo, word-goes, word-fails, words-end}
use Rattle.jb_price.proofs.read.bound_list.Goals as goal
use Rattle.jb_price.proofs.read.bound_list.Goals.{After-next_word}

-- what is read up to the next word
next : (c : After-next_word) → EachTo number_of (words c.args.text.now) c.loop-rest.bounds.items (c.next_word.result.0.now ∷ words_in (option_copied c.next_word.result.1))
next c = rw (c.in-Some.is, c.next_word.ensures.words) at c.loop-rest.invariant

pub returns-in_default-number-clause-err : goal.returns-in_default-number-clause-err
returns-in_default-number-clause-err c = word-fails (next (goal.at.returns-in_default-number-clause-err c).After-next_word) 2 (sym c.in_default-number.ensures)

pub loop-rest-preserved : goal.loop-rest-preserved
loop-rest-preserved c = rw c.in-Ok.ensures.items (word-goes (next (goal.at.loop-rest-preserved c).After-next_word) c.in-Some-number.bound (sym c.in-Some-number.ensures))

pub returns-clause-ok : goal.returns-clause-ok
returns-clause-ok c = words-end (rw (none-left c.loop-rest.rest c.in_default.not-Some) at c.loop-rest.invariant)
