use Rattle.std.proofs.Common.{arith}
use Rattle.std.proofs.lemmas.Grind.{common_steps}
use Rattle.jb_deck.proofs.Shapes.{shape-same}
use Rattle.jb_journal.proofs.closing.are_all.Goals as goal

pub returns : goal.returns
returns c = λ yes. (shape-same c.args.at_end c.args.shape c.if-ne.ensures, first_of (omega arith, cc, grind (arith, common_steps)))
