-- What the second lock of a desk guards, as a value.
use Rattle.jb_deck.specs.Deck.{OpenDeck}

-- the journal and the clock that the second lock guards
pub record JournalAndClock (D C : Type 0) : Type 0 where
  pub deck : OpenDeck D
  pub clock : C

-- this journal and this clock
abbrev pub journal_and_clock : {D C : Type 0} → OpenDeck D → C → JournalAndClock D C
journal_and_clock deck clock = record { deck = deck; clock = clock }
