use Rattle.std.proofs.Common.{ap, ◌∙◌}
use Rattle.jb_deck.specs.Done.{past_after, first_ticket}
use Rattle.jb_deck.proofs.GatherGroups.{last-past}
use Rattle.jb_book.proofs.follow.end_of.Goals as goal

pub returns-in-Some : goal.returns-in-Some
returns-in-Some c = last-past (first_ticket c.args.done.now) c.entries.result.now c.in-Some.entry.now c.in-Some.ensures.value ∙ ap (past_after (first_ticket c.args.done.now)) c.entries.ensures
