use Rattle.jb_book.proofs.OpenedJournal.{none-after}
use Rattle.jb_book.proofs.laws.none_after_at_desk.Goals as goal

pub returns : goal.returns
returns g c = none-after g.D.Disk g.H.Origin.begun
