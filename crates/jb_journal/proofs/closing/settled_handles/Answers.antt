use Rattle.jb_deck.proofs.GatherGroups.{last-past}
use Rattle.jb_journal.proofs.closing.settled_handles.Goals as goal

pub returns-in-Some : goal.returns-in-Some
returns-in-Some c = last-past 0 c.args.trail.now c.in-Some.entry.now c.in-Some.ensures.value
