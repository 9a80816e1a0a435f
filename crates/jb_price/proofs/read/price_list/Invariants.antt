use Rattle.std.proofs.Common.{option_copied}
use Rattle.jb_text.specs.Parts.{words, words_in}
use Rattle.jb_text.proofs.LineLeft.{left}
use Rattle.jb_price.specs.Claims.{price_in_word}
use Rattle.jb_price.proofs.CertLines.{EachTo}
use Rattle.jb_price.proofs.read.price_list.Given as goal

-- the prices of the words are those that the rest says after the ones that were read
abbrev pub invariant-loop-rest : goal.invariant-loop-rest
invariant-loop-rest l = EachTo price_in_word (words l.fn.text) l.prices.items (words_in (option_copied l.rest))

abbrev pub decreases-loop-rest : goal.decreases-loop-rest
decreases-loop-rest l = left l.rest
