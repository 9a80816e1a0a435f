-- One stretch of a list of extents.
use Rattle.std.specs.Prelude.{ℕ, ⊤, ◌≤◌, ◌^◌, ◌==◌, ◌&&◌, ◌||◌, not, Bool, if◌then◌else◌, List, length, drop}
use Rattle.std.specs.Prelude.{slice_index, nat_lt, Option, Some, None, option_and_then}
use Rattle.jb_text.specs.Parts.{before, onward, number_of}
use Rattle.jb_map.specs.Blocks.{extent_count}
use Rattle.jb_map.specs.declared.extent.Extent.{Extent}
use Rattle.jb_image.specs.declared.list_word.ListWord.{ListWord}
use Rattle.jb_image.specs.declared.list_word.ListWord.TheVariants.{Nothing, Blocks}

-- the numbers from a first one to a last one, below 2^63
abbrev pub counted_in : ℕ → ℕ → Option Extent
counted_in first last =
    if nat_lt last first || not (nat_lt last (2 ^ 63)) then None else Some (record { first = first; last = last })

-- the numbers that `C-D` or `C` says, by the number before the hyphen and what is from it on
abbrev pub range_from : List ℕ → ℕ → Option Extent
range_from rest first =
    if length rest == 0 then counted_in first first
    else option_and_then (λ last. counted_in first last) (number_of (drop 1 rest))

-- the numbers that `C-D` or `C` says
abbrev pub range_in : List ℕ → Option Extent
range_in text = option_and_then (λ first. range_from (onward 45 text) first) (number_of (before 45 text))

-- the blocks that a word says, where it says some, do not end before they begin
abbrev pub IsForward : ListWord → Type 0
IsForward Nothing = ⊤
IsForward (Blocks at e) = e.first ≤ e.last

-- blocks of the journal that are in as many of the image
abbrev pub stretch_in : Extent → Extent → Option ListWord
stretch_in own blocks = if extent_count own == extent_count blocks then Some (Blocks (Some own.first) blocks) else None

-- a text begins with `):`
abbrev pub is_ended : List ℕ → Bool
is_ended rest = not (nat_lt (length rest) 2) && (slice_index rest 0 == 41 && slice_index rest 1 == 58)

-- a place is a name, of a block of the file system's own map: it begins with a capital letter
abbrev pub is_name : List ℕ → Bool
is_name inner = not (length inner == 0) && (not (nat_lt (slice_index inner 0) 65) && nat_lt (slice_index inner 0) 91)

-- the blocks after a place within the journal
abbrev pub placed_word : List ℕ → Extent → Option ListWord
placed_word inner blocks =
    if is_name inner then Some Nothing else option_and_then (λ own. stretch_in own blocks) (range_in inner)

-- what `(INNER` and the rest of a word say
abbrev pub place_in : List ℕ → List ℕ → Option ListWord
place_in inner rest = if is_ended rest then option_and_then (placed_word inner) (range_in (drop 2 rest)) else None

-- what a word says
abbrev pub named_in : List ℕ → Option ListWord
named_in word =
    if length word == 0 then Some Nothing
    else if slice_index word 0 == 40 then place_in (before 41 (drop 1 word)) (onward 41 (drop 1 word))
    else option_and_then (λ blocks. Some (Blocks None blocks)) (range_in word)
