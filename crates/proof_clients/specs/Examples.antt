-- Values of the examples: three handles, what they cost as groups, and their cuts and prices.
use Rattle.std.specs.Prelude.{ℕ, ◌+◌, List, [], ◌∷◌, map, Option, Some, None}
use Rattle.std.specs.FinMap as homes
use Rattle.std.proofs.Common.{lit≤}
use Rattle.jb_block.specs.declared.size.BlockSize.TheVariants.{OneKib}
use Rattle.jb_block.specs.declared.width.Width.TheVariants.{Narrow}
use Rattle.jb_handle.specs.declared.shape.Shape.{Shape}
use Rattle.jb_handle.specs.declared.stopped.Stopped.{Stopped}
use Rattle.jb_handle.specs.declared.word.Word.{Word}
use Rattle.jb_handle.specs.declared.word.Word.TheVariants.{Copy}
use Rattle.jb_plan.specs.Batch.{Gathered, gathered}

-- what a handle leaves that wrote these bytes into some homes, which rise
abbrev pub copies_at : List ℕ → List ℕ → List (ℕ × Word)
copies_at bytes bs = map (λ b. (b, Copy bytes)) bs

-- the handle with this ticket that wrote the bytes into these homes
abbrev pub wrote : List ℕ → ℕ → List ℕ → Stopped
wrote bytes ticket bs = record { ticket = ticket; words = homes.from_sorted (copies_at bytes bs) }

-- handles with tickets from this one on, each of which wrote the bytes into some homes
abbrev pub wrote_from : List ℕ → ℕ → List (List ℕ) → List Stopped
wrote_from bytes ticket [] = []
wrote_from bytes ticket (bs ∷ rest) = wrote bytes ticket bs ∷ wrote_from bytes (ticket + 1) rest

-- three handles: the second one shares no home with the first, and both of its homes with the third. What the copies
-- hold does not count for what they cost
abbrev pub three : List Stopped
three = wrote_from [] 0 ((1 ∷ 2 ∷ []) ∷ (3 ∷ 4 ∷ []) ∷ (3 ∷ 4 ∷ 5 ∷ []) ∷ [])

-- the first two of them
abbrev pub first_two : List Stopped
first_two = wrote_from [] 0 ((1 ∷ 2 ∷ []) ∷ (3 ∷ 4 ∷ []) ∷ [])

-- a journal whose transactions take six log blocks at most
abbrev pub six : Shape
six = record { bs = OneKib; homes = 8; limit = 6; width = Narrow; least = lit≤ tt; most = lit≤ tt }

-- the same with four
abbrev pub four : Shape
four = record { bs = OneKib; homes = 8; limit = 4; width = Narrow; least = lit≤ tt; most = lit≤ tt }

-- the handles as a batch for such a journal
abbrev pub batch : Shape → Gathered
batch shape = gathered 0 three shape

-- the first handle, and the other two: four log blocks and five
abbrev pub best : List ℕ
best = 0 ∷ 1 ∷ 3 ∷ []

-- as many handles as fit, and the rest: six log blocks and five
abbrev pub greedy : List ℕ
greedy = 0 ∷ 2 ∷ 3 ∷ []

-- the least log blocks of the first handles, with six for a group
abbrev pub prices : List (Option ℕ)
prices = Some 0 ∷ Some 4 ∷ Some 6 ∷ Some 9 ∷ []

-- the same, with one block less for all three
abbrev pub low_prices : List (Option ℕ)
low_prices = Some 0 ∷ Some 4 ∷ Some 6 ∷ Some 8 ∷ []

-- the same, with one block more
abbrev pub high_prices : List (Option ℕ)
high_prices = Some 0 ∷ Some 4 ∷ Some 6 ∷ Some 10 ∷ []

-- the same without the last one
abbrev pub short_prices : List (Option ℕ)
short_prices = Some 0 ∷ Some 4 ∷ Some 6 ∷ []

-- with four log blocks for a group: none for all three
abbrev pub four_prices : List (Option ℕ)
four_prices = Some 0 ∷ Some 4 ∷ Some 8 ∷ None ∷ []

-- the same, with a number for all three
abbrev pub late_prices : List (Option ℕ)
late_prices = Some 0 ∷ Some 4 ∷ Some 8 ∷ Some 13 ∷ []
