-- The words that a list of handles leaves: of several on one home, the last one counts.
use Rattle.std.specs.Prelude.{ℕ, Bool, true, false, List, [], ◌∷◌, ◌++◌, Option, Some, None}
use Rattle.std.specs.List.{flat_map}
use Rattle.std.specs.Option.{option_or}
use Rattle.std.specs.Ordering.{nat_cmp}
use Rattle.std.specs.FinMap as homes
use Rattle.std.specs.FinSet as set
use Rattle.jb_handle.specs.declared.word.Word.{Word}
use Rattle.jb_handle.specs.declared.word.Word.TheVariants.{Copy, Free}
use Rattle.jb_handle.specs.declared.stopped.Stopped.{Stopped}
use Rattle.jb_handle.specs.Word.{WordMap}

-- the word of home b in the last handle that has one
abbrev pub word : List Stopped → ℕ → Option Word
word [] b = None
word (h ∷ hs) b = option_or (word hs b) (homes.get h.words b)

-- the homes that the handles touch
abbrev pub touched : List Stopped → set.FinSet nat_cmp
touched hs = set.from_list (flat_map (λ h. homes.keys h.words) hs)

-- whether a home's word is a copy
abbrev pub is_copied : Option Word → Bool
is_copied None = false
is_copied (Some (Copy bytes)) = true
is_copied (Some Free) = false

-- whether a home's word is free
abbrev pub is_freed : Option Word → Bool
is_freed None = false
is_freed (Some (Copy bytes)) = false
is_freed (Some Free) = true

-- the homes whose last word is a copy
abbrev pub copies : List Stopped → set.FinSet nat_cmp
copies hs = set.retain (touched hs) (λ b. is_copied (word hs b))

-- the homes whose last word is free
abbrev pub frees : List Stopped → set.FinSet nat_cmp
frees hs = set.retain (touched hs) (λ b. is_freed (word hs b))

-- the entries of the handles, those of the last handle first
abbrev pub latest_first : List Stopped → List (ℕ × Word)
latest_first [] = []
latest_first (h ∷ hs) = latest_first hs ++ homes.entries h.words

-- the words of the handles as those of one: of several entries of a home the first is kept
unfoldable pub words_of : List Stopped → WordMap
words_of hs = homes.from_entries (latest_first hs)
