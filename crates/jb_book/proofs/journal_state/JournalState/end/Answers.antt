use Rattle.jb_book.specs.SinceMark.{Lasts}
use Rattle.jb_board.proofs.EntryPlaces.{all-first}
use Rattle.jb_book.proofs.journal_state.JournalState.end.Goals as goal

pub returns-clause-since : goal.returns-clause-since
returns-clause-since g c = record {
  since = c.self.invariant.since;
  marks_last = all-first (Lasts g.D.Disk g.H.Origin.begun c.self.invariant.since.given c.self.invariant.since.bounds c.self.inside.deck) c.args.marks c.self.inside.appender c.check.ensures.prefix c.self.invariant.marks_last;
}
