-- Values of the examples on calls of a book: two handles that stopped, of which the first is settled.
use Rattle.std.specs.Prelude.{◌≡◌, ℕ, false, List, [], ◌∷◌, Ok}
use Rattle.jb_handle.specs.declared.stopped.Stopped.{Stopped}
use Rattle.jb_plan.specs.Batch.{gathered}
use Rattle.jb_book.specs.Account.{Account}
use Rattle.jb_book.specs.Calls.{BookCall, Opened, Enqueued, Took, Settled}
use Rattle.jb_deck.specs.declared.done.Entry.{Entry}
use Rattle.proof_clients.specs.Examples.{six, wrote_from}
use Rattle.proof_clients.specs.ExampleMarks.{first, second, entry}

-- two handles that each wrote a home
abbrev pub two_handled : List Stopped
two_handled = wrote_from [] 0 ((1 ∷ []) ∷ (2 ∷ []) ∷ [])

-- a handle of one seat stopped with this ticket, and one of another with the next, the newest call first
abbrev pub stopped_two : ℕ → List BookCall
stopped_two ticket =
    Enqueued 1 second (Ok 1) ∷ Opened 1 1 (Ok tt) ∷ Enqueued 0 first (Ok ticket) ∷ Opened 0 1 (Ok tt) ∷ []

-- and then both were taken as two groups, of which the first is settled
abbrev pub settled_one : List BookCall
settled_one =
    Settled (entry 7 0 1 ∷ []) (Ok tt) ∷ Took (gathered 0 two_handled six) (0 ∷ 1 ∷ 2 ∷ []) ∷ stopped_two 0

-- what the book then is, with this queue and this trail
pub record HasCounted (queue : List Stopped) (trail : List Entry) (a : Account) : Type 0 where
  pub shape : a.shape ≡ six
  pub next : a.shadow.next ≡ 2
  pub queued : a.shadow.queue ≡ queue
  pub told : a.trail ≡ trail
  pub running : a.aborted ≡ false

-- a transaction with the handles from one ticket up to, but without, another, which takes so many blocks
abbrev pub entry_of : ℕ → ℕ → ℕ → ℕ → Entry
entry_of number first past blocks = record { first = first; past = past; number = number; blocks = blocks }
