-- A line on standard error, and the name of a file at its end.
use Rattle.std.specs.Prelude.{ℕ, zero, suc, ◌+◌, ◌-◌, ◌==◌, ◌&&◌, ◌||◌, not, Bool, if◌then◌else◌, List, [], ◌∷◌, ◌++◌}
use Rattle.std.specs.Prelude.{length, get_or, nat_lt, Option, None, Some, option_map, codes}
use Rattle.hex.specs.Hex.{encode_lower}
use Rattle.jb_text.specs.TextParts.{spelled}
use Rattle.jb_args.specs.PlainCommand.{Asked}
use Rattle.jb_args.specs.PlainCommand.Asked.{AsksCat, AsksDump, AsksRecover}
use Rattle.jb_commands.specs.declared.names.TwoFiles.{TwoFiles}

-- ---- a name as it is shown

-- the texts of the first numbers, one after the other
abbrev pub upto : (ℕ → List ℕ) → ℕ → List ℕ
upto text zero = []
upto text (suc n) = upto text n ++ text n

-- a byte is a control character
abbrev pub is_control : ℕ → Bool
is_control a = nat_lt a 32 || a == 127

-- two bytes are a control character (U+0080 to U+009F), or one that turns the direction of a text (U+061C)
abbrev pub is_control_pair : ℕ → ℕ → Bool
is_control_pair a b = (a == 194 && (not (nat_lt b 128) && nat_lt b 160)) || (a == 216 && b == 156)

-- three bytes are a character that turns the direction of a text, or ends its line (U+200E, U+200F, U+2028 to U+202E,
-- U+2066 to U+2069)
abbrev pub is_control_triple : ℕ → ℕ → ℕ → Bool
is_control_triple a b c =
    a == 226 && ((b == 128 && ((c == 142 || c == 143) || (not (nat_lt c 168) && nat_lt c 175)))
    || (b == 129 && (not (nat_lt c 166) && nat_lt c 170)))

-- how many bytes the character has that begins with these three and is not shown; 0 where it is shown
abbrev pub hidden_length : ℕ → ℕ → ℕ → ℕ
hidden_length a b c =
    if is_control a then 1 else if is_control_pair a b then 2 else if is_control_triple a b c then 3 else 0

-- the same of the character that begins at this place of a name
abbrev pub hidden_from : List ℕ → ℕ → ℕ
hidden_from name at = hidden_length (get_or name at 0) (get_or name (at + 1) 0) (get_or name (at + 2) 0)

-- the byte at this place of a name belongs to a character that is not shown, and that begins so many bytes before
abbrev pub is_hidden_after : List ℕ → ℕ → ℕ → Bool
is_hidden_after name at before = not (nat_lt at before) && nat_lt before (hidden_from name (at - before))

-- the byte at this place of a name belongs to a character that is not shown
abbrev pub is_hidden_at : List ℕ → ℕ → Bool
is_hidden_at name at = is_hidden_after name at 0 || (is_hidden_after name at 1 || is_hidden_after name at 2)

-- the byte at this place of a name as it is shown: of a character that is not shown as `\x` and two hexadecimal digits
abbrev pub shown_at : List ℕ → ℕ → List ℕ
shown_at name at =
    if is_hidden_at name at then 92 ∷ 120 ∷ encode_lower (get_or name at 0 ∷ []) else get_or name at 0 ∷ []

-- a name as it is shown
abbrev pub shown_name : List ℕ → List ℕ
shown_name name = upto (shown_at name) (length name)

-- what a line has after its words: a space and a name, where there is one
abbrev pub after_words : Option (List ℕ) → List ℕ
after_words None = []
after_words (Some name) = 32 ∷ shown_name name

-- a line: its words, the name of a file after them where there is one, and the LF
abbrev pub line_naming : List (List ℕ) → Option (List ℕ) → List ℕ
line_naming words name = spelled words ++ (after_words name ++ codes "\n")

-- ---- the names of two files

-- the names of the two files of a command whose journal is in a file of its own
pub record PairNames : Type 0 where
  pub image : List ℕ
  pub journal : List ℕ

-- the image's name and the journal's, where that is in a file of its own
abbrev pub names_with : List ℕ → Option (List ℕ) → Option PairNames
names_with image journal = option_map (λ name. record { image = image; journal = name }) journal

-- the names as the program has them
abbrev pub names_said : Option TwoFiles → Option PairNames
names_said files = option_map (λ (f : TwoFiles). record { image = f.image.now; journal = f.journal.now }) files

-- the name of the image, where the command has two files
abbrev pub image_named : Option PairNames → Option (List ℕ)
image_named names = option_map (λ (n : PairNames). n.image) names

-- the name of the journal's file, where the command has two files
abbrev pub journal_named : Option PairNames → Option (List ℕ)
journal_named names = option_map (λ (n : PairNames). n.journal) names

-- the two files of the command that the words ask for
abbrev pub names_of : Asked → Option PairNames
names_of (AsksCat image words) = names_with image words.journal
names_of (AsksRecover image words) = names_with image words.journal
names_of (AsksDump file words) = names_with file words.journal
names_of _ = None
