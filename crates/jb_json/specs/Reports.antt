-- A report as text: a line of its facts, and the lines of those that are numbers.
use Rattle.std.specs.Prelude.{ℕ, List, [], ◌∷◌, ◌++◌, Option, None, Some, if◌then◌else◌, map, codes, decimal}
use Rattle.jb_text.specs.TextParts.{spelled}
use Rattle.jb_json.specs.Facts.{Fact, Counted, Bare, Worded, Named, Marked, Chosen, Listed, Sparse}

-- a word, with these bytes before it, where there is one
abbrev pub word_after : List ℕ → Option (List ℕ) → List ℕ
word_after before None = []
word_after before (Some word) = spelled (before ∷ word ∷ [])

-- a fact in a line, with these bytes before it where the line has anything of it
abbrev pub fact_after : List ℕ → Fact → List ℕ
fact_after before (Counted name number) = spelled (before ∷ name ∷ codes " " ∷ decimal number ∷ [])
fact_after before (Bare name number) = spelled (before ∷ decimal number ∷ [])
fact_after before (Worded name word) = spelled (before ∷ word ∷ [])
fact_after before (Named name word) = word_after before word
fact_after before (Marked name holds) = if holds then spelled (before ∷ name ∷ []) else []
fact_after before (Chosen name holds word other) = spelled (before ∷ (if holds then word else other) ∷ [])
fact_after before (Listed name each numbers) = []
fact_after before (Sparse name numbers) = []

-- the facts of a line after the first, each with a space before it
abbrev pub facts_after : List Fact → List ℕ
facts_after facts = spelled (map (fact_after (codes " ")) facts)

-- the line of some facts
abbrev pub facts_line : List Fact → List ℕ
facts_line [] = codes "\n"
facts_line (fact ∷ facts) = fact_after [] fact ++ (facts_after facts ++ codes "\n")

-- the line of a number, after a word
abbrev pub number_line : List ℕ → ℕ → List ℕ
number_line each number = spelled (each ∷ codes " " ∷ decimal number ∷ codes "\n" ∷ [])

-- the lines of a fact's numbers
abbrev pub fact_lines : Fact → List ℕ
fact_lines (Listed name each numbers) = spelled (map (number_line each) numbers)
fact_lines _ = []

-- the text of a report
abbrev pub report_lines : List Fact → List ℕ
report_lines facts = facts_line facts ++ spelled (map fact_lines facts)
