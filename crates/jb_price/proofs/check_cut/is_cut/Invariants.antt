use Rattle.std.proofs.Common.{drop}
use Rattle.jb_cost.specs.Cut.{RisesTo}
use Rattle.jb_price.proofs.check_cut.is_cut.Given as goal

-- The bounds that are left decide whether all rise to the end.
abbrev pub invariant-loop-to : goal.invariant-loop-to
invariant-loop-to l =
    record {
      forth : RisesTo l.end 0 l.rest → RisesTo l.end l.from (drop l.to-index l.rest);
      back : RisesTo l.end l.from (drop l.to-index l.rest) → RisesTo l.end 0 l.rest;
    }
