-- Values of the examples on what clients know and a run leaves: notes of a journal, and what workers have stopped.
use Rattle.std.specs.Prelude.{◌≡◌, ℕ, List, [], ◌∷◌, slice_index_or}
use Rattle.jb_handle.specs.Word.{WordMap}
use Rattle.jb_handle.specs.declared.shape.Shape.{Shape}
use Rattle.jb_deck.specs.declared.done.Entry.{Entry}
use Rattle.jb_book.specs.Origin.{Begun}
use Rattle.jb_journal.specs.Notes.{Known, Note, Stop}
use Rattle.proof_clients.specs.ExampleMarks.{first, one_entry, two_entries}

-- what was noted at this moment
abbrev pub noted_at : ℕ → List Entry → Note
noted_at moment trail = record { moment = moment; trail = trail }

-- two notes: of a journal that has committed nothing, and of one that has committed three handles
abbrev pub two_notes : List Note
two_notes = noted_at 5 [] ∷ noted_at 9 two_entries ∷ []

-- what is known of a journal with this history and this trail
abbrev pub known_of : List WordMap → List Entry → Known
known_of log trail = record { log = log; notes = noted_at 5 trail ∷ [] }

-- one handle stopped, and nothing was committed
abbrev pub nothing_known : Known
nothing_known = known_of (first ∷ []) []

-- the same, and it was committed
abbrev pub first_known : Known
first_known = known_of (first ∷ []) one_entry

-- whatever it answered, the worker at this place has stopped these handles
abbrev pub HasStopped : {T : Type 0} → List (List Stop) → Shape → Type 0 → ℕ → ℕ → List Stop → Known → T → Type 0
HasStopped all shape sure workers at stops known answer = stops ≡ slice_index_or all at []

-- the same, whatever the start of the run was
abbrev pub HasStoppedFrom : {T : Type 0} → List (List Stop) → Begun → Shape → Type 0 → ℕ → ℕ → List Stop → Known → T
    → Type 0
HasStoppedFrom all b = HasStopped all

-- the disk is sure to have been honest
abbrev pub IsSure : Type 0
IsSure = Unit {0}
