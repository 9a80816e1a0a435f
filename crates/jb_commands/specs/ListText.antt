-- Where a list of extents is read from.
use Rattle.std.specs.Prelude.{◌≡◌, ◌⊎◌, ◌==◌, ℕ, Bool, false, if◌then◌else◌, List, [], ◌∷◌, Option, None, Some, codes}
use Rattle.std.specs.Str.{bytes_eq}
use Rattle.jb_commands.specs.Texts.{HasNoText, IsText, known_behind}
use Rattle.jb_commands.specs.declared.fault.CommandFault.{CommandFault}

-- what follows a first `@`
abbrev pub file_behind : List ℕ → Option (List ℕ)
file_behind [] = None
file_behind (c ∷ cs) = if c == 64 then Some cs else None

-- the file that has the list which a word says: `-` is standard input, and `@FILE` a file; any other word is the list
abbrev pub list_file : List ℕ → Option (List ℕ)
list_file word = if bytes_eq word (codes "-") then Some word else file_behind word

-- the text of the list, from a file where that is named, and where its name is `-` from what standard input has
abbrev pub IsListIn : Option (List ℕ) → Option (List ℕ) → List ℕ → List ℕ → Type 0
IsListIn input None word text = text ≡ word
IsListIn input (Some file) word text = IsText (known_behind file input) text

-- the text of the list that a word says
abbrev pub IsListOf : Option (List ℕ) → List ℕ → List ℕ → Type 0
IsListOf input word text = IsListIn input (list_file word) word text

-- it could not be read
abbrev pub HasNoListIn : Option (List ℕ) → Option (List ℕ) → CommandFault → Type 0
HasNoListIn input None fault = ⊥
HasNoListIn input (Some file) fault = HasNoText file (known_behind file input) fault

-- the list that a word says could not be read
abbrev pub HasNoList : Option (List ℕ) → List ℕ → CommandFault → Type 0
HasNoList input word fault = HasNoListIn input (list_file word) fault

-- whether standard input is read for a list
abbrev pub is_input : Option (List ℕ) → Bool
is_input None = false
is_input (Some file) = bytes_eq file (codes "-")

-- the same of the list that a word says, where one is given
abbrev pub reads_list : Option (List ℕ) → Bool
reads_list None = false
reads_list (Some word) = is_input (list_file word)
