use Rattle.jb_cost.proofs.Footprints.{covers-none}
use Rattle.jb_cost.proofs.footprint.Footprint.new.Goals as goal

pub returns : goal.returns
returns c = covers-none c.args.geometry c.new.result c.new.ensures.empty
