-- Values of the examples on what threads see: the words of three handles, and trails with them.
use Rattle.std.specs.Prelude.{ℕ, List, [], ◌∷◌}
use Rattle.std.specs.FinMap as homes
use Rattle.jb_handle.specs.Word.{WordMap}
use Rattle.jb_handle.specs.declared.stopped.Stopped.{Stopped}
use Rattle.jb_deck.specs.Deck.{OpenDeck}
use Rattle.jb_deck.specs.declared.done.Entry.{Entry}
use Rattle.proof_clients.specs.Examples.{copies_at, wrote_from}

-- the words of a handle that wrote home 1
abbrev pub first : WordMap
first = homes.from_sorted (copies_at [] (1 ∷ []))

-- the words of one that wrote home 2
abbrev pub second : WordMap
second = homes.from_sorted (copies_at [] (2 ∷ []))

-- the words of one that wrote home 3
abbrev pub third : WordMap
third = homes.from_sorted (copies_at [] (3 ∷ []))

-- three handles with these words
abbrev pub one_each : List Stopped
one_each = wrote_from [] 0 ((1 ∷ []) ∷ (2 ∷ []) ∷ (3 ∷ []) ∷ [])

-- a transaction with the handles from one ticket up to, but without, another
abbrev pub entry : ℕ → ℕ → ℕ → Entry
entry number first past = record { first = first; past = past; number = number; blocks = 3 }

-- the first handle is settled
abbrev pub one_entry : List Entry
one_entry = entry 7 0 1 ∷ []

-- the first handle is settled, and then the other two in one transaction
abbrev pub two_entries : List Entry
two_entries = entry 7 0 1 ∷ entry 8 1 3 ∷ []

-- a journal with this trail
abbrev pub with_entries : {D : Type 0} → List Entry → OpenDeck D → OpenDeck D
with_entries trail d = record d { trail = trail }

-- three handles that two seats have stopped: the first and the third one by one seat, the second by the other
abbrev pub by_two_seats : List (List (ℕ × WordMap))
by_two_seats = ((0, first) ∷ (2, third) ∷ []) ∷ ((1, second) ∷ []) ∷ []

-- three handles that changed nothing: the first and the third one stopped by one seat, the second by the other
abbrev pub idle_stops : List (List (ℕ × WordMap))
idle_stops = ((0, homes.empty) ∷ (2, homes.empty) ∷ []) ∷ ((1, homes.empty) ∷ []) ∷ []

-- the first two of them as one transaction, which is a commit block alone
abbrev pub idle_group : Entry
idle_group = record { first = 0; past = 2; number = 7; blocks = 1 }
