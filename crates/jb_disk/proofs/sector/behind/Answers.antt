use Rattle.std.proofs.Common.{◌∙◌, min, length}
use Rattle.std.proofs.lemmas.List.{drop_min, take_rest}
use Rattle.jb_disk.proofs.sector.behind.Goals as goal

pub returns : goal.returns
returns c = rw c.min.ensures (take_rest c.args.choice.now (min c.args.n (length c.args.choice.now)) ∙ drop_min c.args.n c.args.choice.now)
