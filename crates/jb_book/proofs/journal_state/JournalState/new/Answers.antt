use Rattle.jb_book.specs.History.{IsStop}
use Rattle.jb_book.proofs.StopHistories.{new-marked}
use Rattle.jb_book.proofs.journal_state.JournalState.new.Goals as goal

pub invariant_of-result : goal.invariant_of-result
invariant_of-result g c = new-marked g.D.Disk g.met.D.Disk.only_now g.H.Origin.begun (IsStop g.H.Origin.begun c.args.prefix) c.args.appender c.args.deck c.requires.marked c.requires.fresh c.requires.running c.requires.begun
