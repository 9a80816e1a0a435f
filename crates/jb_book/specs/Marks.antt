-- The marks of a desk, which are its journal as it was when the desk was started, after each round of a committer and
-- after each read, and what they show of a ticket.
use Rattle.std.specs.Prelude.{◌≡◌, ℕ, ◌<◌, ◌≤◌, true, List, All, length, Option, Some, None, slice_get}
use Rattle.jb_deck.specs.Deck.{OpenDeck}
use Rattle.jb_deck.specs.declared.done.Entry.{Entry}
use Rattle.jb_handle.specs.Word.{WordMap}
use Rattle.jb_handle.specs.declared.shape.Shape.{Shape}
use Rattle.jb_board.specs.HistoryRule.{IsFirstPart, StandsIn}
use Rattle.jb_book.specs.Account.{Account}
use Rattle.jb_book.specs.declared.sights.Sights.{Sights}

-- ---- what was seen

-- all that was seen of both histories is seen, and maybe more
abbrev pub SeesMore : {D H : Type 0} → Sights D H → Sights D H → Type 0
SeesMore old new = IsFirstPart old.stops new.stops × IsFirstPart old.marks new.marks

-- the same is seen of both
abbrev pub SeesSame : {D H : Type 0} → Sights D H → Sights D H → Type 0
SeesSame old new = (new.stops ≡ old.stops) × (new.marks ≡ old.marks)

-- a handle stopped with these words, under this ticket, which is higher than those of the handles that had been seen;
-- now it is seen, too
pub record SeesStop (old new : List WordMap) (ticket : ℕ) (words : WordMap) : Type 0 where
  pub higher : length old ≤ ticket
  pub begins : IsFirstPart old new
  pub stands : StandsIn new (ticket, words)

-- ---- what a mark shows

-- this list has the entry
pub record HasEntry (es : List Entry) (e : Entry) : Type 0 where
  pub place : ℕ
  pub stands : slice_get es place ≡ Some e

module _ {D : Type 0} (marks : List (OpenDeck D)) where
  -- the trail of one of these marks has the entry
  pub record IsMarked (e : Entry) : Type 0 where
    pub at : ℕ
    pub mark : OpenDeck D
    pub stands : StandsIn marks (at, mark)
    pub has : HasEntry mark.trail e

  -- at one of these marks the journal had this shape
  pub record HasShapeMark (shape : Shape) : Type 0 where
    pub at : ℕ
    pub mark : OpenDeck D
    pub stands : StandsIn marks (at, mark)
    pub same : mark.shape ≡ shape

  -- the groups that are settled in the book are marked, and it has the shape of a marked journal
  pub record AreOfBook (a : Account) : Type 0 where
    pub trail : All IsMarked a.trail
    pub shape : HasShapeMark a.shape

  -- at one of these marks the journal had failed
  pub record HasFailedMark : Type 0 where
    pub at : ℕ
    pub mark : OpenDeck D
    pub stands : StandsIn marks (at, mark)
    pub failed : mark.aborted ≡ true

  -- some mark shows the number of the ticket: its trail has an entry with this number that covers the ticket
  pub record Shows (ticket number : ℕ) : Type 0 where
    pub entry : Entry
    pub marked : IsMarked entry
    pub from : entry.first ≤ ticket
    pub to : ticket < entry.past
    pub is_number : entry.number ≡ number

  -- some mark shows that the ticket is settled: its trail has an entry that comes after it
  pub record ShowsAfter (ticket : ℕ) : Type 0 where
    pub entry : Entry
    pub marked : IsMarked entry
    pub before : ticket < entry.first

  -- the marks show the number of the ticket; or, where its entry was taken, that it is settled
  abbrev pub AreShown : ℕ → Option ℕ → Type 0
  AreShown ticket (Some number) = Shows ticket number
  AreShown ticket None = ShowsAfter ticket
