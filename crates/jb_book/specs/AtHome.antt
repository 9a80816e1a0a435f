-- How a desk ends whose log is empty: each home is on the disk.
use Rattle.std.specs.Prelude.{◌≡◌, ℕ, ◌+◌, List, Option, Some, None, if◌then◌else◌}
use Rattle.jb_disk.specs.Image.{block}
use Rattle.jb_disk.specs.declared.disk.Disk.{Ghosts}
use Rattle.jb_handle.specs.Word.{WordMap}
use Rattle.jb_handle.specs.Words.{word}
use Rattle.jb_handle.specs.declared.shape.Shape.{Shape}
use Rattle.jb_handle.specs.declared.stopped.Stopped.{Stopped}
use Rattle.jb_log.specs.Follows.{StandsBy}
use Rattle.jb_deck.specs.Deck.{OpenDeck}
use Rattle.jb_deck.specs.declared.done.Entry.{Entry}
use Rattle.jb_book.specs.Origin.{Begun}
use Rattle.jb_book.specs.SinceMark.{EndsMarked}

-- how many blocks of the log of a journal are in use; of one that has failed none is told
abbrev pub log_used : {D : Type 0} → OpenDeck D → Option ℕ
log_used d = if d.aborted then None else Some d.log.live

-- each home holds on the disk what the last word of these handles says, or what it held at the start where they have
-- none; nothing is said of one that they leave free
abbrev pub AreHome : {D : Type 0} → Ghosts D → Begun → List Stopped → D → Type 0
AreHome G b given disk =
    (home : ℕ) → StandsBy (word given home) (b.homes home) (block (G.newest disk) (b.own.maxlen + home))

-- How a desk ends of whose history and marks this was seen, and how much of its log is in use: where nothing is, each
-- home is on the disk as the handles say that its journal was given, if the start is known and the disk is honest
pub record EndsUsing {D : Type 0} (G : Ghosts D) (b : Begun) (stops : List (List (ℕ × WordMap))) (handles : ℕ)
    (shape : Shape) (disk : D) (trail : List Entry) (seen : List WordMap) (marks : List (OpenDeck D))
    (in_log : Option ℕ) : Type 0 where
  pub marked : EndsMarked G b stops handles shape disk trail seen marks
  pub used : in_log ≡ log_used marked.ends.deck
  pub home : in_log ≡ Some 0 → b.is_known → G.honest disk → AreHome G b marked.ends.since.given disk
