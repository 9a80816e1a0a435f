use Rattle.jb_handle.proofs.EachWord.{no-words}
use Rattle.jb_handle.proofs.RisingHomes.{view-empty}
use Rattle.jb_handle.proofs.words_builder.WordsBuilder.new.Goals as goal

pub invariant_of-result : goal.invariant_of-result
invariant_of-result c = rw c.new.ensures.empty no-words

pub returns : goal.returns
returns c = rw c.new.ensures.empty view-empty
