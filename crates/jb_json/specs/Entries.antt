-- A line that names its values, as the lines of a dump do, as a JSON object.
use Rattle.std.specs.Prelude.{ℕ, Bool, ◌&&◌, ◌||◌, List, [], ◌∷◌, ◌++◌, Option, None, Some, if◌then◌else◌, map, codes}
use Rattle.std.specs.Prelude.{decimal}
use Rattle.std.specs.Str.{bytes_eq}
use Rattle.json.specs.Print.{quoted}
use Rattle.jb_text.specs.Parts.{before, lines, number_of, onward, words}
use Rattle.jb_text.specs.TextParts.{spelled}

-- whether the value of this name, in a line of this kind, is digits that stand for bits or bytes, and no number
abbrev pub is_digits : List ℕ → List ℕ → Bool
is_digits kind name =
    bytes_eq name (codes "compat") || (bytes_eq name (codes "incompat") || (bytes_eq name (codes "rocompat")
    || (bytes_eq name (codes "checksum") || (bytes_eq kind (codes "copy") && bytes_eq name (codes "head")))))

-- whether it is a list of numbers
abbrev pub is_numbers : List ℕ → List ℕ → Bool
is_numbers kind name = bytes_eq kind (codes "revoke") && bytes_eq name (codes "homes")

-- a number where a text spells one, and else the text
abbrev pub number_or_text : Option ℕ → List ℕ → List ℕ
number_or_text None text = quoted text
number_or_text (Some n) text = decimal n

-- a list of numbers, which is `-` where there are none
abbrev pub numbers_said : List ℕ → List ℕ
numbers_said text = codes "[" ++ ((if bytes_eq text (codes "-") then [] else text) ++ codes "]")

-- the value of this name, in a line of this kind
abbrev pub entry_value : List ℕ → List ℕ → List ℕ → List ℕ
entry_value kind name value =
    if is_numbers kind name then numbers_said value
    else if is_digits kind name then quoted value
    else number_or_text (number_of value) value

-- a word without `=`: it is true; but what a line of the kind `uuid` has is the UUID
abbrev pub alone_text : List ℕ → List ℕ → List ℕ
alone_text kind word =
    if bytes_eq kind (codes "uuid") then codes ",\"uuid\":" ++ quoted word
    else codes "," ++ (quoted word ++ codes ":true")

-- a word, from what is before its first `=` and what is from there on
abbrev pub named_word : List ℕ → List ℕ → List ℕ → List ℕ
named_word kind name [] = alone_text kind name
named_word kind name (mark ∷ value) = codes "," ++ (quoted name ++ (codes ":" ++ entry_value kind name value))

-- a word of a line of this kind
abbrev pub entry_word : List ℕ → List ℕ → List ℕ
entry_word kind word = named_word kind (before 61 word) (onward 61 word)

-- the kind of a line, with these bytes before it, and its words
abbrev pub kind_text : List ℕ → List ℕ → List (List ℕ) → List ℕ
kind_text front kind ws =
    spelled (front ∷ codes "\"kind\":" ∷ []) ++ (quoted kind ++ (spelled (map (entry_word kind) ws) ++ codes "}\n"))

-- a line that begins with the number of a block, and its words after that
abbrev pub numbered_text : ℕ → List (List ℕ) → List ℕ
numbered_text n [] = spelled (codes "{\"block\":" ∷ decimal n ∷ codes "}\n" ∷ [])
numbered_text n (kind ∷ ws) = spelled (codes "{\"block\":" ∷ decimal n ∷ []) ++ kind_text (codes ",") kind ws

-- a line, from the number that its first word spells, if it does, that word, and the words after it
abbrev pub first_text : Option ℕ → List ℕ → List (List ℕ) → List ℕ
first_text None word ws = kind_text (codes "{") word ws
first_text (Some n) word ws = numbered_text n ws

-- the words of a line as an object
abbrev pub entry_words : List (List ℕ) → List ℕ
entry_words [] = []
entry_words (word ∷ ws) = first_text (number_of word) word ws

-- a line as an object
abbrev pub entry_text : List ℕ → List ℕ
entry_text line = entry_words (words line)

-- the lines of a text, each as an object
abbrev pub entries_text : List ℕ → List ℕ
entries_text text = spelled (map entry_text (lines text))
