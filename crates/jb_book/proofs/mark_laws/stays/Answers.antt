use Rattle.jb_book.proofs.ShownTickets.{stays}
use Rattle.jb_book.proofs.mark_laws.stays.Goals as goal

pub returns : goal.returns
returns g c = stays g.D.Disk g.H.Origin.begun
