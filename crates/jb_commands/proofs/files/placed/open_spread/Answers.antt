use Rattle.jb_image.specs.Lists.{list_of}
use Rattle.jb_commands.proofs.FoundSuper.{spread-shut}
use Rattle.jb_commands.proofs.files.placed.open_spread.Goals as goal

pub returns-in-Err-clause-shut : goal.returns-in-Err-clause-shut
returns-in-Err-clause-shut g c = spread-shut (list_of c.args.extents) c.in-Err.fault c.in-Err.ensures.shut
