-- The pieces in which the JSON of a report is written. Only the crate's private clauses cite them.
use Rattle.std.specs.Prelude.{ℕ, Bool, true, false, List, [], ◌∷◌, ◌++◌, Option, None, Some, map, codes, decimal}
use Rattle.json.specs.Ascii.{true_text, false_text, null_text}
use Rattle.json.specs.Print.{escape_byte, quoted}
use Rattle.jb_text.specs.TextParts.{spelled}
use Rattle.jb_json.specs.Facts.{Fact, Counted, Bare, Worded, Named, Marked, Chosen, Listed, Sparse}
use Rattle.jb_json.specs.Objects.{fact_name}

-- the bytes of a text between its quotes
abbrev pub escaped_text : List ℕ → List ℕ
escaped_text text = spelled (map escape_byte text)

-- a number with these bytes before it
abbrev pub number_with : List ℕ → ℕ → List ℕ
number_with before n = spelled (before ∷ decimal n ∷ [])

-- the text of an array of numbers
abbrev pub numbers_text : List ℕ → List ℕ
numbers_text [] = codes "[]"
numbers_text (n ∷ ns) =
    number_with (codes "[") n ++ (spelled (map (number_with (codes ",")) ns) ++ codes "]")

-- a number where there is one, and else null, with these bytes before it
abbrev pub sparse_with : List ℕ → Option ℕ → List ℕ
sparse_with before None = spelled (before ∷ null_text ∷ [])
sparse_with before (Some n) = spelled (before ∷ decimal n ∷ [])

-- the text of an array of numbers of which some are missing
abbrev pub sparse_text : List (Option ℕ) → List ℕ
sparse_text [] = codes "[]"
sparse_text (n ∷ ns) =
    sparse_with (codes "[") n ++ (spelled (map (sparse_with (codes ",")) ns) ++ codes "]")

-- the text of a truth value
abbrev pub truth_text : Bool → List ℕ
truth_text true = true_text
truth_text false = false_text

-- the text of a text where there is one, and else of null
abbrev pub named_text : Option (List ℕ) → List ℕ
named_text None = null_text
named_text (Some text) = quoted text

-- the text of a fact's value
abbrev pub value_text : Fact → List ℕ
value_text (Counted name n) = decimal n
value_text (Bare name n) = decimal n
value_text (Worded name word) = quoted word
value_text (Named name word) = named_text word
value_text (Marked name holds) = truth_text holds
value_text (Chosen name holds word other) = truth_text holds
value_text (Listed name each numbers) = numbers_text numbers
value_text (Sparse name numbers) = sparse_text numbers

-- a member with these bytes before it
abbrev pub member_after : List ℕ → Fact → List ℕ
member_after before fact = before ++ (quoted (fact_name fact) ++ (codes ":" ++ value_text fact))

-- an object without its closing brace
abbrev pub members_text : List Fact → List ℕ
members_text [] = codes "{"
members_text (fact ∷ facts) = member_after (codes "{") fact ++ spelled (map (member_after (codes ",")) facts)
