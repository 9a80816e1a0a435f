use Rattle.jb_cost.proofs.StretchSearch.{Joins}
use Rattle.jb_cost.proofs.join.joined.Given as goal

abbrev pub invariant-loop-earlier : goal.invariant-loop-earlier
invariant-loop-earlier l = Joins l.owned l.stretches l.start l.joined

abbrev pub decreases-loop-earlier : goal.decreases-loop-earlier
decreases-loop-earlier l = l.joined.from
