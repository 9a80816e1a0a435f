use Rattle.jb_book.proofs.ShownTickets.{shown_is_given}
use Rattle.jb_book.proofs.mark_laws.shown_is_given.Goals as goal

pub returns : goal.returns
returns g c = shown_is_given g.D.Disk g.H.Origin.begun
