-- A list of extents: what a text lists, and which blocks it has.
use Rattle.std.specs.Prelude.{◌≡◌, ℕ, ◌+◌, ◌-◌, ◌^◌, ◌<◌, ◌≤◌, ◌==◌, ◌&&◌, ◌||◌, not, Bool, true, false, if◌then◌else◌}
use Rattle.std.specs.Prelude.{List, [], ◌∷◌, ◌++◌, min, max, nat_lt, Option, Some, None, option_and_then, Result}
use Rattle.std.specs.Prelude.{Ok, Err}
use Rattle.jb_text.specs.Parts.{grow}
use Rattle.jb_map.specs.Blocks.{extent_count, has_block}
use Rattle.jb_image.specs.Words.{named_in}
use Rattle.jb_map.specs.declared.extent.Extent.{Extent}
use Rattle.jb_image.specs.declared.extents.Extents.{Extents}
use Rattle.jb_image.specs.declared.extents_fault.ListFault.{ListFault}
use Rattle.jb_image.specs.declared.extents_fault.ListFault.TheVariants.{Syntax, Memory}
use Rattle.jb_image.specs.declared.list_word.ListWord.{ListWord}
use Rattle.jb_image.specs.declared.list_word.ListWord.TheVariants.{Nothing, Blocks}

-- ---- the words of a text

-- a byte is between two words: white space, of which five kinds are 9 to 13 and a space is 32, or a comma
abbrev pub is_between : ℕ → Bool
is_between b = b == 32 || (b == 44 || (not (nat_lt b 9) && not (nat_lt 13 b)))

-- the words of a text; two such bytes in a row have an empty word between them
unfoldable pub listed : List ℕ → List (List ℕ)
listed [] = [] ∷ []
listed (b ∷ bs) = if is_between b then [] ∷ listed bs else grow b (listed bs)

-- the words of what follows such a byte, if there is one
abbrev pub listed_in : Option (List ℕ) → List (List ℕ)
listed_in None = []
listed_in (Some text) = listed text

-- ---- the extents

-- the extents, in the journal's order
abbrev pub list_of : Extents → List Extent
list_of e = e.list.items

-- how many blocks they have, up to the largest number
abbrev pub extents_count_from : ℕ → List Extent → ℕ
extents_count_from sum [] = sum
extents_count_from sum (e ∷ es) = extents_count_from (min (sum + extent_count e) (2 ^ 64 - 1)) es

-- the same from 0
abbrev pub extents_count : List Extent → ℕ
extents_count es = extents_count_from 0 es

-- the block of the image that holds block i of the journal
abbrev pub place_within : List Extent → ℕ → Option ℕ
place_within [] i = None
place_within (e ∷ es) i = if nat_lt i (extent_count e) then Some (e.first + i) else place_within es (i - extent_count e)

-- one of them has this block of the image
abbrev pub holds_in : List Extent → ℕ → Bool
holds_in [] block = false
holds_in (e ∷ es) block = has_block e block || holds_in es block

-- the first block that an extent shares with the first of others that has one of its blocks
abbrev pub meets_in : Extent → List Extent → Option ℕ
meets_in e [] = None
meets_in e (f ∷ fs) =
    if not (nat_lt f.last e.first) && not (nat_lt e.last f.first) then Some (max e.first f.first) else meets_in e fs

-- at no place of a journal do two lists of extents have another block; or this is the first at which they do
abbrev pub PartsFirst : List Extent → List Extent → Option ℕ → Type 0
PartsFirst es fs None = (i : ℕ) → place_within es i ≡ place_within fs i
PartsFirst es fs (Some at) =
    (place_within es at ≡ place_within fs at → ⊥) × ((i : ℕ) → i < at → place_within es i ≡ place_within fs i)

-- how many of the extents have this block
abbrev pub times : List Extent → ℕ → ℕ
times [] block = 0
times (e ∷ es) block = (if has_block e block then 1 else 0) + times es block

-- no block is in two of them
abbrev pub AreDisjoint : List Extent → Type 0
AreDisjoint es = (block : ℕ) → times es block ≤ 1

-- no block is in two of them; or this is the lowest that is
abbrev pub SharesFirst : List Extent → Option ℕ → Type 0
SharesFirst es None = AreDisjoint es
SharesFirst es (Some block) = (2 ≤ times es block) × ((lower : ℕ) → lower < block → times es lower ≤ 1)

-- the last block of the first of them that is not whole in an image of this many blocks
abbrev pub past_in : ℕ → List Extent → Option ℕ
past_in count [] = None
past_in count (e ∷ es) = if nat_lt e.last count then past_in count es else Some e.last

-- an extent goes on where the last of others ends
abbrev pub is_attached : List Extent → Extent → Bool
is_attached [] e = false
is_attached (f ∷ []) e = f.last + 1 == e.first
is_attached (f ∷ g ∷ fs) e = is_attached (g ∷ fs) e

-- an extent after others: one that goes on where the last of them ends is one with it
abbrev pub attached : List Extent → Extent → List Extent
attached [] e = e ∷ []
attached (f ∷ []) e = if f.last + 1 == e.first then record { first = f.first; last = e.last } ∷ [] else f ∷ e ∷ []
attached (f ∷ g ∷ fs) e = f ∷ attached (g ∷ fs) e

-- what was before, where there is anything, does not end before this block
abbrev pub reaches_to : Option Extent → ℕ → Bool
reaches_to None block = false
reaches_to (Some e) block = not (nat_lt e.last block)

-- a stretch that begins there comes next after this many blocks; one that does not say where it begins does
abbrev pub follows_at : ℕ → Option ℕ → Bool
follows_at blocks None = true
follows_at blocks (Some at) = at == blocks

-- the extents with the blocks that a word says, where they come next
abbrev pub with_named : List Extent → ListWord → Option (List Extent)
with_named es Nothing = Some es
with_named es (Blocks at e) = if follows_at (extents_count es) at then Some (attached es e) else None

-- the extents after one more word
abbrev pub with_word : List Extent → List ℕ → Option (List Extent)
with_word es word = option_and_then (with_named es) (named_in word)

-- the extents after further words
abbrev pub with_words : List Extent → List (List ℕ) → Option (List Extent)
with_words es [] = Some es
with_words es (word ∷ more) = option_and_then (λ now. with_words now more) (with_word es word)

-- the extents that a text lists; none where it is no such list
abbrev pub extents_in : List ℕ → Option (List Extent)
extents_in text = with_words [] (listed text)

-- memory may run out at a word: it says blocks of the journal, they come next, and are a further stretch
pub record MayKeep (es : List Extent) (word : List ℕ) : Type 0 where
  pub at : Option ℕ
  pub blocks : Extent
  pub says : named_in word ≡ Some (Blocks at blocks)
  pub next : follows_at (extents_count es) at ≡ true
  pub further : is_attached es blocks ≡ false

-- a word was taken up: the extents are those with it; or they cannot be
abbrev pub TakesWord : List ℕ → List Extent → List Extent → Result ℕ ListFault → Type 0
TakesWord word old new (Ok blocks) = with_word old word ≡ Some new
TakesWord word old new (Err Syntax) = with_word old word ≡ None
TakesWord word old new (Err Memory) = MayKeep old word

-- memory may run out at such a word of a text: the words before it are of the form
pub record MayKeepIn (text : List ℕ) : Type 0 where
  pub earlier : List (List ℕ)
  pub word : List ℕ
  pub later : List (List ℕ)
  pub had : List Extent
  pub parts : listed text ≡ earlier ++ word ∷ later
  pub reads : with_words [] earlier ≡ Some had
  pub keeps : MayKeep had word

-- the extents that a text lists were read, or it lists none; or memory ran out
abbrev pub ReadsList : List ℕ → Result Extents ListFault → Type 0
ReadsList text (Ok extents) = extents_in text ≡ Some (list_of extents)
ReadsList text (Err Syntax) = extents_in text ≡ None
ReadsList text (Err Memory) = MayKeepIn text
