use Rattle.std.proofs.Common.{Some}
use Rattle.jb_commands.proofs.WatchedCalls.{watched-shows}
use Rattle.jb_commands.proofs.files.watched.show_watched.Goals as goal

pub returns : goal.returns
returns g c = record { shows = watched-shows g.D.Disk c.args.shown.sums (Some c.args.homes) c.args.shown.home c.args.shown.count c.args.shown.hex c.args.disk.now c.show_on.new.disk (g.O.Write.contents c.args.out.now) (g.O.Write.contents c.show_on.new.out) c.show_on.result c.show_on.ensures.shows }
