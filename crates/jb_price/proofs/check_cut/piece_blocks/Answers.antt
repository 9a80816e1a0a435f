use Rattle.std.proofs.Common.{arith}
use Rattle.jb_cost.proofs.PieceCosts.{weight-part}
use Rattle.jb_price.proofs.check_cut.piece_blocks.Goals as goal

pub group_cost-requires : goal.group_cost-requires
group_cost-requires c = record { size = omega (arith, weight-part c.args.handles.now c.args.from c.args.to (omega arith), c.requires.size) }
