-- What the marks show of a ticket whose wait names no group, or has a time limit.
use Rattle.std.specs.Prelude.{◌≡◌, ℕ, List, Option, Some, None}
use Rattle.jb_deck.specs.Deck.{OpenDeck}
use Rattle.jb_book.specs.Marks.{Shows, ShowsAfter}
use Rattle.jb_book.specs.declared.sights.Sights.{Sights}
use Rattle.jb_desk.specs.declared.fault.WaitFault.{WaitFault}
use Rattle.jb_desk.specs.declared.fault.WaitFault.TheVariants as wait

-- of a wait that answers `Taken`, the marks show that the ticket is settled
abbrev pub ShowsTaken : {D : Type 0} → List (OpenDeck D) → ℕ → WaitFault → Type 0
ShowsTaken marks ticket wait.Taken = ShowsAfter marks ticket
ShowsTaken marks ticket wait.Aborted = Unit {0}
ShowsTaken marks ticket wait.Unknown = Unit {0}

-- what is seen after a wait for this ticket with a time limit: where it names a group, what one without a limit shows;
-- where the time has gone by, what was seen before
abbrev pub ShowsFor : {D H : Type 0} → ℕ → Sights D H → Sights D H → Option ℕ → Type 0
ShowsFor ticket old new None = new ≡ old
ShowsFor ticket old new (Some number) = Shows new.marks ticket number
