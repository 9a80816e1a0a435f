-- The parts of a text, which is a list of bytes: its lines, its words, and the numbers in them.
use Rattle.std.specs.Prelude.{◌≡◌, ℕ, ◌<◌, ◌≤◌, ◌+◌, ◌-◌, ◌*◌, ◌^◌, ◌==◌, ◌&&◌, nat_lt, if◌then◌else◌, List, [], ◌∷◌}
use Rattle.std.specs.Prelude.{◌++◌, length, take, drop, slice_index, Option, option_map, Some, None, Result, Ok, Err}
use Rattle.std.specs.Char.{is_ascii_digit}
use Rattle.std.specs.Str.{bytes_eq}

-- the second step, if the first gave a value
infixl 10 ◌>>=◌
abbrev pub ◌>>=◌ : {A B E : Type 0} → Result A E → (A → Result B E) → Result B E
Ok x >>= f = f x
Err e >>= f = Err e

-- the bytes before the first `delimiter`
unfoldable pub before : ℕ → List ℕ → List ℕ
before delimiter [] = []
before delimiter (b ∷ bs) = if b == delimiter then [] else b ∷ before delimiter bs

-- the bytes from the first `delimiter` on
unfoldable pub onward : ℕ → List ℕ → List ℕ
onward delimiter [] = []
onward delimiter (b ∷ bs) = if b == delimiter then b ∷ bs else onward delimiter bs

-- the first piece with one more byte in front
abbrev pub grow : ℕ → List (List ℕ) → List (List ℕ)
grow b [] = (b ∷ []) ∷ []
grow b (piece ∷ more) = (b ∷ piece) ∷ more

-- the lines of a text, each but perhaps the last ended by an LF
unfoldable pub lines : List ℕ → List (List ℕ)
lines [] = []
lines (b ∷ bs) = if b == 10 then [] ∷ lines bs else grow b (lines bs)

-- the words of a text, separated by single spaces; an empty text is one empty word
unfoldable pub words : List ℕ → List (List ℕ)
words [] = [] ∷ []
words (b ∷ bs) = if b == 32 then [] ∷ words bs else grow b (words bs)

-- words, each with one space before it
abbrev pub spaced : List (List ℕ) → List ℕ
spaced [] = []
spaced (word ∷ more) = 32 ∷ (word ++ spaced more)

-- the words of what follows a space, if there is one
abbrev pub words_in : Option (List ℕ) → List (List ℕ)
words_in None = []
words_in (Some text) = words text

-- a text's first line, and the text after it
pub record FirstLine (text line rest : List ℕ) : Type 0 where
  pub parts : lines text ≡ line ∷ lines rest
  pub within : length line + length rest ≤ length text
  pub shorter : length rest < length text

-- what follows a word at the front of a line
abbrev pub behind_word : List ℕ → List ℕ → Option (List ℕ)
behind_word word line = if bytes_eq (take (length word) line) word then Some (drop (length word) line) else None

-- what the first of some lines gives, and the lines after it
abbrev pub read_first : {A : Type 0} → (List ℕ → Option A) → List (List ℕ) → Option (A × List (List ℕ))
read_first read [] = None
read_first read (line ∷ more) = option_map (λ x. (x, more)) (read line)

-- a number of at most 64 bits with one more digit after it
abbrev pub with_digit : ℕ → ℕ → Option ℕ
with_digit value digit =
    if is_ascii_digit digit
    then (if nat_lt (value * 10 + (digit - 48)) (2 ^ 64) then Some (value * 10 + (digit - 48)) else None)
    else None

-- a number, and what a step makes of it
abbrev pub and_then : Option ℕ → (ℕ → Option ℕ) → Option ℕ
and_then None step = None
and_then (Some n) step = step n

-- the number that digits spell, after those of a value
unfoldable pub number_from : ℕ → List ℕ → Option ℕ
number_from value [] = Some value
number_from value (digit ∷ digits) = and_then (with_digit value digit) (λ more. number_from more digits)

-- the number that a text spells in decimal, without leading zeros and within 64 bits
abbrev pub number_of : List ℕ → Option ℕ
number_of digits =
    if length digits == 0 then None
    else if nat_lt 1 (length digits) && slice_index digits 0 == 48 then None
    else number_from 0 digits
