use Rattle.jb_price.proofs.Verdicts.{planned-accepted}
use Rattle.jb_price.proofs.laws.planned.Goals as goal

pub returns : goal.returns
returns c = planned-accepted
