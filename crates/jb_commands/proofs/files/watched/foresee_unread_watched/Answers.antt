use Rattle.jb_commands.proofs.WatchedCalls.{watched-unread}
use Rattle.jb_commands.proofs.files.watched.foresee_unread_watched.Goals as goal

pub returns : goal.returns
returns g c = record { foretells = watched-unread g.D.Disk c.args.sums c.args.disk.now c.foresee_unread_by.new.disk c.foresee_unread_by.result c.foresee_unread_by.ensures.foretells }
