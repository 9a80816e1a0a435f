-- The history of a desk's stops: the words of each handle that stopped, at its ticket.
use Rattle.std.specs.Prelude.{◌≡◌, ℕ, List, All, length}
use Rattle.std.specs.List.{sum_by}
use Rattle.jb_cost.specs.Pieces.{joined}
use Rattle.jb_deck.specs.declared.done.Entry.{Entry}
use Rattle.jb_disk.specs.declared.disk.Disk.{Ghosts}
use Rattle.jb_handle.specs.Word.{WordMap}
use Rattle.jb_handle.specs.declared.shape.Shape.{Shape}
use Rattle.jb_handle.specs.declared.stopped.Stopped.{Stopped}
use Rattle.jb_board.specs.HistoryRule.{StandsIn, with_places}
use Rattle.jb_book.specs.CallsToBook.{IsInHistory, IsMachineRun}
use Rattle.jb_deck.specs.Deck.{OpenDeck, IsShapeOf}
use Rattle.jb_book.specs.Origin.{Begun}
use Rattle.jb_book.specs.Since.{IsSinceOf}

-- the handle is the one of the history that has its ticket, and a handle may stop with its words
abbrev pub IsStop : Begun → List WordMap → Stopped → Type 0
IsStop b log h = b.stops h.words × IsInHistory log h

-- These stops, each with its ticket and its words, are all of the history, and each of them once: any weights add
-- up to the same
pub record AreAllStops (log : List WordMap) (stops : List (ℕ × WordMap)) : Type 0 where
  pub stand : All (StandsIn log) stops
  pub once : (weight : ℕ × WordMap → ℕ) → sum_by weight stops ≡ sum_by weight (with_places 0 log)

-- How a desk ends whose seats have stopped these handles: there is one history of this many stops, which has them all
-- and no others, and the journal on the disk was given the first handles of this history
pub record EndsWith {D : Type 0} (G : Ghosts D) (b : Begun) (stops : List (List (ℕ × WordMap))) (handles : ℕ)
    (shape : Shape) (disk : D) (trail : List Entry) : Type 0 where
  pub log : List WordMap
  pub number : length log ≡ handles
  pub stopped : AreAllStops log (joined stops)
  pub deck : OpenDeck D
  pub same_disk : deck.disk ≡ disk
  pub same_shape : deck.shape ≡ shape
  pub same_trail : deck.trail ≡ trail
  pub since : IsSinceOf G b (IsStop b log) deck
  -- where the disk is honest now, the shape is that of the journal of the start
  pub journal : b.is_known → G.honest disk → IsShapeOf b.own b.count shape

-- How it came about that seats have stopped these handles: there is one history, which has them all and no others, and
-- there is a list of events that the machine of handles accepts, in which these handles stopped in this order, and
-- whose settled groups are those of the trail. Where the disk is honest now, the machine's groups have cost what they
-- do in a journal of this shape
pub record CameAbout {D : Type 0} (G : Ghosts D) (b : Begun) (stops : List (List (ℕ × WordMap))) (shape : Shape)
    (disk : D) (trail : List Entry) : Type 0 where
  pub log : List WordMap
  pub stopped : AreAllStops log (joined stops)
  pub run_shape : Shape
  pub run : IsMachineRun run_shape log trail
  pub runs_as : b.is_known → G.honest disk → run_shape ≡ shape
