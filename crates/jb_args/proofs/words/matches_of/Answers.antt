use Rattle.std.proofs.Common.{map}
use Rattle.jb_args.proofs.Faults.{fails_by, finds_by}
use Rattle.jb_args.proofs.words.matches_of.Goals as goal

pub returns-clause-faults : goal.returns-clause-faults
returns-clause-faults g c =
    fails_by _ (map g.S.AsStr.text c.args.words.now) _ c.requires c.try_get_matches_from.ensures.kinds

pub returns-clause-found : goal.returns-clause-found
returns-clause-found g c =
    finds_by _ (map g.S.AsStr.text c.args.words.now) _ c.requires c.try_get_matches_from.ensures.matches
