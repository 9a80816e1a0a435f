use Rattle.std.proofs.Common.{option_copied}
use Rattle.jb_text.specs.Parts.{words, words_in, number_of}
use Rattle.jb_text.proofs.LineLeft.{left}
use Rattle.jb_price.proofs.CertLines.{EachTo}
use Rattle.jb_price.proofs.read.bound_list.Given as goal

-- the bounds of the words are those that the rest says after the ones that were read
abbrev pub invariant-loop-rest : goal.invariant-loop-rest
invariant-loop-rest l = EachTo number_of (words l.fn.text) l.bounds.items (words_in (option_copied l.rest))

abbrev pub decreases-loop-rest : goal.decreases-loop-rest
decreases-loop-rest l = left l.rest
