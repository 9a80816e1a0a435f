use Rattle.jb_commands.proofs.WatchedCalls.{watched-foretells}
use Rattle.jb_commands.proofs.files.watched.foresee_watched.Goals as goal

pub returns : goal.returns
returns g c = record { foretells = watched-foretells g.D.Disk c.args.sums c.args.disk.now c.foresee_by.new.disk c.foresee_by.result c.foresee_by.ensures.foretells }
