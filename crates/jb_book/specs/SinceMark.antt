-- What a crash leaves since a mark: the journal of a desk as it was when it was started, after some round of a
-- committer, or after some read.
use Rattle.std.specs.Prelude.{◌≡◌, ◌⊎◌, ℕ, suc, ◌<◌, ◌≤◌, List, All, Some, slice_get, Result, Ok, Err}
use Rattle.jb_disk.specs.Image.{Image}
use Rattle.jb_disk.specs.declared.disk.Disk.{Ghosts}
use Rattle.jb_handle.specs.Word.{WordMap}
use Rattle.jb_handle.specs.declared.shape.Shape.{Shape}
use Rattle.jb_handle.specs.declared.stopped.Stopped.{Stopped}
use Rattle.jb_cost.specs.Pieces.{joined}
use Rattle.jb_deck.specs.Deck.{OpenDeck}
use Rattle.jb_deck.specs.Done.{entries_of, past_after}
use Rattle.jb_deck.specs.declared.batched.BatchFault.{BatchFault}
use Rattle.jb_deck.specs.declared.batched.BatchFault.TheVariants as batch
use Rattle.jb_deck.specs.declared.done.Done.{Done}
use Rattle.jb_deck.specs.declared.done.Entry.{Entry}
use Rattle.jb_board.specs.HistoryRule.{IsFirstPart, StandsIn}
use Rattle.jb_book.specs.Marks.{HasEntry, HasFailedMark, IsMarked, Shows, ShowsAfter}
use Rattle.jb_book.specs.Origin.{Begun}
use Rattle.jb_book.specs.History.{AreAllStops, EndsWith, IsStop}
use Rattle.jb_book.specs.Since.{HasFirst, IsSinceOf, WasGiven}

-- each of the entries has at least one ticket, and none past the last one's
abbrev pub HaveTickets : List Entry → Type 0
HaveTickets es = (e : Entry) → HasEntry es e → (e.first < e.past) × (e.past ≤ past_after 0 es)

-- the journal has settled all that it had settled at the mark
pub record HasSettledOf {D : Type 0} (d m : OpenDeck D) : Type 0 where
  pub tiles : HaveTickets m.trail
  pub settled : past_after 0 m.trail ≤ past_after 0 d.trail

-- The mark lasts: the journal has the shape that it had at the mark, and a disk that is honest was so at the mark. Of a
-- journal that was given these handles since the start, in groups with these bounds, on a disk that is honest, a crash
-- at any moment since the mark leaves the first groups, with all handles that were settled at the mark
pub record Lasts {D : Type 0} (G : Ghosts D) (b : Begun) (given : List Stopped) (bounds : List ℕ) (d : OpenDeck D)
    (m : OpenDeck D) : Type 0 where
  pub has : HasSettledOf d m
  pub same_shape : d.shape ≡ m.shape
  pub was_honest : G.honest d.disk → G.honest m.disk
  pub earlier : b.is_known → G.honest d.disk → G.moment m.disk ≤ G.moment d.disk
  pub leaves : b.is_known → G.honest d.disk → (c : Image) → G.left_since d.disk (G.moment m.disk) c
      → HasFirst b given bounds (past_after 0 m.trail) c

-- a journal that is as it must be since the start, whose marks last
pub record IsMarkedOf {D : Type 0} (G : Ghosts D) (b : Begun) (is : Stopped → Type 0) (marks : List (OpenDeck D))
    (d : OpenDeck D) : Type 0 where
  pub since : IsSinceOf G b is d
  pub marks_last : All (Lasts G b since.given since.bounds d) marks

-- one of these marks has the entries of the groups that were settled; where the journal has failed, it had failed at
-- one of them
abbrev pub MarksSettled : {D : Type 0} → List (OpenDeck D) → Result Done BatchFault → Type 0
MarksSettled marks (Ok done) = All (IsMarked marks) (entries_of done)
MarksSettled marks (Err (batch.Aborted back)) = HasFailedMark marks
MarksSettled marks (Err (batch.WrongTicket back expected)) = Unit {0}
MarksSettled marks (Err (batch.OtherShape back)) = Unit {0}
MarksSettled marks (Err (batch.NumbersSpent back)) = Unit {0}
MarksSettled marks (Err (batch.Memory back)) = Unit {0}
MarksSettled marks (Err (batch.DeviceFault settled)) = All (IsMarked marks) (entries_of settled) × HasFailedMark marks

-- How a desk ends of whose history and marks this was seen: its history begins with what was seen of it, and each of
-- the marks lasts
pub record EndsMarked {D : Type 0} (G : Ghosts D) (b : Begun) (stops : List (List (ℕ × WordMap))) (handles : ℕ)
    (shape : Shape) (disk : D) (trail : List Entry) (seen : List WordMap) (marks : List (OpenDeck D)) : Type 0 where
  pub ends : EndsWith G b stops handles shape disk trail
  pub knows : IsFirstPart seen ends.log
  pub last : All (Lasts G b ends.since.given ends.since.bounds ends.deck) marks

-- How a desk ends, whatever its seats have left: there is one history of stops, which begins with what was seen of it,
-- the journal on the disk was given the first handles of this history, and each of the marks lasts
pub record EndsSeen {D : Type 0} (G : Ghosts D) (b : Begun) (disk : D) (seen : List WordMap) (marks : List (OpenDeck D))
    : Type 0 where
  pub log : List WordMap
  pub knows : IsFirstPart seen log
  pub deck : OpenDeck D
  pub same_disk : deck.disk ≡ disk
  pub since : IsSinceOf G b (IsStop b log) deck
  pub last : All (Lasts G b since.given since.bounds deck) marks

-- ---- what follows for a ticket that was shown

-- The handle with the ticket stays: there is one mark among these, and a crash at any moment since it leaves first
-- groups of the handles of the one history that the seats made, with all of these up to this one at least. The trail
-- lists the last of the groups
pub record TicketStays {D : Type 0} (G : Ghosts D) (b : Begun) (stops : List (List (ℕ × WordMap))) (disk : D)
    (trail : List Entry) (marks : List (OpenDeck D)) (ticket : ℕ) : Type 0 where
  pub at : ℕ
  pub mark : OpenDeck D
  pub stands : StandsIn marks (at, mark)
  pub earlier : G.moment mark.disk ≤ G.moment disk
  pub log : List WordMap
  pub stopped : AreAllStops log (joined stops)
  pub deck : OpenDeck D
  pub same_trail : deck.trail ≡ trail
  pub given : List Stopped
  pub bounds : List ℕ
  pub has : WasGiven (IsStop b log) given bounds deck
  pub leaves : (c : Image) → G.left_since disk (G.moment mark.disk) c → HasFirst b given bounds (suc ticket) c

-- some mark shows that the ticket is settled: the number of its group, or an entry that comes after it
abbrev pub IsShown : {D : Type 0} → List (OpenDeck D) → ℕ → Type 0
IsShown marks ticket = ((number : ℕ) × Shows marks ticket number) ⊎ ShowsAfter marks ticket

-- what was shown of a ticket at any time, by some of the marks that a desk was closed with, stays on a disk that is
-- honest as the desk is closed
abbrev pub ShownStays : {D : Type 0} → Ghosts D → Begun → Type 0
ShownStays {D = D} G b =
    (stops : List (List (ℕ × WordMap))) (handles : ℕ) (shape : Shape) (disk : D) (trail : List Entry)
    (known : List WordMap) (before marks : List (OpenDeck D)) (ticket : ℕ)
    → EndsMarked G b stops handles shape disk trail known marks → IsFirstPart before marks → IsShown before ticket
    → b.is_known → G.honest disk
    → TicketStays G b stops disk trail before ticket

-- the handle with this ticket, which stopped with these words, is among those that were given, and settled
pub record IsGiven {D : Type 0} (given : List Stopped) (d : OpenDeck D) (ticket : ℕ) (words : WordMap) : Type 0 where
  pub handle : Stopped
  pub stands : slice_get given ticket ≡ Some handle
  pub same_ticket : handle.ticket ≡ ticket
  pub same_words : handle.words ≡ words
  pub settled : ticket < past_after 0 d.trail

-- A journal that was given handles of the history, as was seen, and that has settled what it had settled at these
-- marks, was given each handle that they show, with the words that it stopped with
abbrev pub ShownIsGiven : {D : Type 0} → Ghosts D → Begun → Type 0
ShownIsGiven {D = D} G b =
    (known : List WordMap) (marks : List (OpenDeck D)) (d : OpenDeck D) (ticket : ℕ) (words : WordMap)
    → (is : IsSinceOf G b (IsStop b known) d) → All (HasSettledOf d) marks → IsShown marks ticket
    → StandsIn known (ticket, words)
    → IsGiven is.given d ticket words
