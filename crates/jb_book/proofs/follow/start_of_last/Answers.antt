use Rattle.jb_book.proofs.TrailEntries.{last-start}
use Rattle.jb_book.proofs.follow.start_of_last.Goals as goal

pub returns-in-Some : goal.returns-in-Some
returns-in-Some c = last-start c.args.entries.now c.in-Some.entry.now c.in-Some.ensures.value
