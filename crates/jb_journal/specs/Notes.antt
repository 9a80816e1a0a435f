-- What a client knows of its journal: the handles that have stopped, and what was committed when.
use Rattle.std.specs.Prelude.{◌≡◌, ℕ, suc, ◌<◌, ◌≤◌, All, List, length}
use Rattle.jb_disk.specs.Image.{Image}
use Rattle.jb_disk.specs.declared.disk.Disk.{Ghosts}
use Rattle.jb_handle.specs.Tickets.{TicketsFrom}
use Rattle.jb_handle.specs.Word.{WordMap}
use Rattle.jb_handle.specs.Words.{word}
use Rattle.jb_handle.specs.declared.stopped.Stopped.{Stopped}
use Rattle.jb_board.specs.HistoryRule.{IsFirstPart, StandsIn}
use Rattle.jb_log.specs.Follows.{StandsBy}
use Rattle.jb_deck.specs.Deck.{OpenDeck}
use Rattle.jb_deck.specs.Done.{past_after}
use Rattle.jb_deck.specs.declared.done.Entry.{Entry}
use Rattle.jb_book.specs.CallsToBook.{IsInHistory}
use Rattle.jb_book.specs.Marks.{HasEntry}
use Rattle.jb_book.specs.Origin.{Begun}
use Rattle.jb_book.specs.SinceMark.{HaveTickets}
use Rattle.jb_book.specs.Since.{HasFirst}
use Rattle.jb_desk.specs.declared.fault.WaitFault.{WaitFault}
use Rattle.jb_desk.specs.declared.fault.WaitFault.TheVariants as wait

-- a handle that stopped: its ticket and its words
abbrev pub Stop : Type 0
Stop = ℕ × WordMap

-- What is noted of a journal at one time: the moment, and the transactions that were committed by then, without those
-- that had been taken from the trail
pub record Note : Type 0 where
  pub moment : ℕ
  pub trail : List Entry

-- what is noted of a journal
abbrev pub note_of : {D : Type 0} → (D → ℕ) → OpenDeck D → Note
note_of moment m = record { moment = moment m.disk; trail = m.trail }

-- how many handles, the first by their tickets, were committed when this was noted
abbrev pub committed_by : Note → ℕ
committed_by n = past_after 0 n.trail

-- What is known of a journal: the words of the first handles that stopped, each at the place of its ticket, and the
-- first notes of it
pub record Known : Type 0 where
  pub log : List WordMap
  pub notes : List Note

-- all that was known is known, and perhaps more
abbrev pub KnowsMore : Known → Known → Type 0
KnowsMore old new = IsFirstPart old.log new.log × IsFirstPart old.notes new.notes

-- some note lists the ticket, in the transaction with this number
pub record IsInNotes (notes : List Note) (ticket number : ℕ) : Type 0 where
  pub at : ℕ
  pub note : Note
  pub stands : StandsIn notes (at, note)
  pub entry : Entry
  pub has : HasEntry note.trail entry
  pub from : entry.first ≤ ticket
  pub to : ticket < entry.past
  pub is_number : entry.number ≡ number

-- some note lists a transaction after the ticket's, whose own may have been taken from the trail
pub record IsPastInNotes (notes : List Note) (ticket : ℕ) : Type 0 where
  pub at : ℕ
  pub note : Note
  pub stands : StandsIn notes (at, note)
  pub entry : Entry
  pub has : HasEntry note.trail entry
  pub before : ticket < entry.first

-- where a wait for the ticket answers `Taken`, some note lists a transaction after the ticket's
abbrev pub NotesTaken : List Note → ℕ → WaitFault → Type 0
NotesTaken notes ticket wait.Taken = IsPastInNotes notes ticket
NotesTaken notes ticket wait.Aborted = Unit {0}
NotesTaken notes ticket wait.Unknown = Unit {0}

-- each of these handles is listed by some note
abbrev pub AreInNotes : List Note → List Stop → Type 0
AreInNotes notes stops = All (λ s. (number : ℕ) × IsInNotes notes s.0 number) stops

-- What a home holds that was read: what the first of the known handles leave in it, all of those among them that were
-- known to be committed before; nothing is said of a home that these leave free. What it holds is said where the start
-- is known, and the disk is sure to have been honest
pub record ReadsAs (b : Begun) (sure : Type 0) (before after : Known) (home : ℕ) (found : List ℕ) : Type 0 where
  pub given : List Stopped
  pub tickets : TicketsFrom 0 given
  pub are : All (IsInHistory after.log) given
  pub sees : (ticket number : ℕ) → IsInNotes before.notes ticket number → ticket < length given
  pub stands : b.is_known → sure → StandsBy (word given home) (b.homes home) found

-- ---- what a run keeps of it

-- A note lasts, on the disk that a run leaves, of a journal that was given these handles, in groups with these bounds,
-- and has this trail: where that disk is honest, what a crash at any time since that moment leaves has the first
-- groups, with all handles at least that were committed then
pub record NoteLasts {D : Type 0} (G : Ghosts D) (b : Begun) (given : List Stopped) (bounds : List ℕ) (disk : D)
    (trail : List Entry) (n : Note) : Type 0 where
  pub tiles : HaveTickets n.trail
  pub settled : committed_by n ≤ past_after 0 trail
  pub earlier : b.is_known → G.honest disk → n.moment ≤ G.moment disk
  pub leaves : b.is_known → G.honest disk → (c : Image) → G.left_since disk n.moment c
      → HasFirst b given bounds (committed_by n) c

-- what was known holds of the whole run: the handles are the first of all that stopped, and the notes last
pub record KnownLasts {D : Type 0} (G : Ghosts D) (b : Begun) (log : List WordMap) (given : List Stopped)
    (bounds : List ℕ) (disk : D) (trail : List Entry) (k : Known) : Type 0 where
  pub begins : IsFirstPart k.log log
  pub last : All (NoteLasts G b given bounds disk trail) k.notes

-- the handle with this ticket stays since this moment: what a crash at any time since then leaves has the first groups
-- of these handles, cut at these bounds, with all handles up to this one at least
pub record StaysSince {D : Type 0} (G : Ghosts D) (b : Begun) (given : List Stopped) (bounds : List ℕ) (disk : D)
    (since ticket : ℕ) : Type 0 where
  pub earlier : since ≤ G.moment disk
  pub leaves : (c : Image) → G.left_since disk since c → HasFirst b given bounds (suc ticket) c
