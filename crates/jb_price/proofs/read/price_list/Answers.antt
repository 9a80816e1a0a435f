use Rattle.std.proofs.Common.{[], ◌∷◌, refl, sym, option_copied}
use Rattle.jb_text.specs.Parts.{words, words_in}
use Rattle.jb_text.proofs.LineLeft.{none-left}
use Rattle.jb_price.specs.Claims.{price_in_word}
use Rattle.jb_price.proofs.CertLines.{EachTo, word-goes, word-fails, words-end, first-some}
use Rattle.jb_price.proofs.read.price_list.Goals as goal
use Rattle.jb_price.proofs.read.price_list.Goals.{After-next_word, In_default}

-- what is read up to the next word, and to the end
next : (c : After-next_word) → EachTo price_in_word (words c.args.text.now) c.loop-rest.prices.items (c.next_word.result.0.now ∷ words_in (option_copied c.next_word.result.1))
next c = rw (c.in-Some.is, c.next_word.ensures.words) at c.loop-rest.invariant

whole : (c : In_default) → EachTo price_in_word (words c.args.text.now) c.loop-rest.prices.items []
whole c = rw (none-left c.loop-rest.rest c.in_default.not-Some) at c.loop-rest.invariant

pub returns-in_default-price_of-clause-err : goal.returns-in_default-price_of-clause-err
returns-in_default-price_of-clause-err c = word-fails (next (goal.at.returns-in_default-price_of-clause-err c).After-next_word) 1 (sym c.in_default-price_of.ensures)

pub returns-in_default-push-clause-err : goal.returns-in_default-push-clause-err
returns-in_default-push-clause-err c = first-some price_in_word c.args.text.now ((next (goal.at.returns-in_default-push-clause-err c).After-next_word).first (rw (sym c.in-Some-price_of.ensures) refl))

pub loop-rest-preserved : goal.loop-rest-preserved
loop-rest-preserved c = rw c.in-Ok.ensures.items (word-goes (next (goal.at.loop-rest-preserved c).After-next_word) c.in-Some-price_of.price (sym c.in-Some-price_of.ensures))

pub returns-clause-ok : goal.returns-clause-ok
returns-clause-ok c = words-end (whole (goal.at.returns-clause-ok c).In_default)

pub returns-clause-begun : goal.returns-clause-begun
returns-clause-begun c = first-some price_in_word c.args.text.now ((whole (goal.at.returns-clause-begun c).In_default).first tt)
