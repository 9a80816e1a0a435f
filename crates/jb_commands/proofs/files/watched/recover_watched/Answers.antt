use Rattle.std.proofs.Common.{Some}
use Rattle.jb_commands.proofs.WatchedCalls.{watched-recovery}
use Rattle.jb_commands.proofs.files.watched.recover_watched.Goals as goal

pub returns : goal.returns
returns g c = record { recovers = watched-recovery g.D.Disk c.args.sums (Some c.args.homes) c.args.found c.args.disk.now c.recover_on.new.disk c.recover_on.result c.recover_on.ensures.recovers }
