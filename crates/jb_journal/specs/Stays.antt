-- What stays of what was run.
use Rattle.std.specs.Prelude.{◌≡◌, ℕ, List, Some, slice_get}
use Rattle.jb_disk.specs.declared.disk.Disk.{Ghosts}
use Rattle.jb_handle.specs.declared.shape.Shape.{Shape}
use Rattle.jb_book.specs.Origin.{Begun}
use Rattle.jb_journal.specs.Notes.{Known, Note, IsInNotes, Stop, StaysSince}
use Rattle.jb_journal.specs.Run.{RanAll}
use Rattle.jb_journal.specs.declared.ran.Ran.{Ran}

module _ {T D : Type 0} (G : Ghosts D) (b : Begun) (may : Type 0 → ℕ → ℕ → List Stop → Known → T → Type 0) (workers : ℕ)
    (shape : Shape) (ran : Ran T D)
    (all : RanAll G b may workers shape ran) where
  -- The handle that stopped with this ticket and these words stays: it is the one with its ticket among the handles
  -- that the journal was given, and where the disk that is given back is honest, since each of the notes by which a
  -- client knew that it was committed, what a crash at any time leaves has it, and all with lower tickets
  pub record HandleStays (notes : List Note) (stop : Stop) : Type 0 where
    pub number : ℕ
    pub noted : IsInNotes notes stop.0 number
    pub given : slice_get all.ends.since.given stop.0 ≡ Some (record { ticket = stop.0; words = stop.1 })
    pub stays : b.is_known → G.honest ran.disk → (by : ℕ) (n : IsInNotes notes stop.0 by)
        → StaysSince G b all.ends.since.given all.ends.since.bounds ran.disk n.note.moment stop.0
