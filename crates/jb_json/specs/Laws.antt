-- What the JSON of a report is worth: a reader of JSON finds the facts in it.
use Rattle.std.specs.Prelude.{◌≡◌, ℕ, ◌^◌, ◌<◌, ⊤, List, [], ◌∷◌, Option, Some, IfSome}
use Rattle.json.specs.Json.{document}
use Rattle.json.specs.Print.{print}
use Rattle.json.specs.Tree.{json_tokens}
use Rattle.jb_json.specs.Facts.{Fact, Counted, Bare, Worded, Named, Marked, Chosen, Listed, Sparse}
use Rattle.jb_json.specs.Objects.{object_of}

-- each of these numbers has 64 bits
abbrev pub AreWordSized : List ℕ → Type 0
AreWordSized [] = ⊤
AreWordSized (n ∷ ns) = (n < 2 ^ 64) × AreWordSized ns

-- each of these numbers that is there has 64 bits
abbrev pub AreWordsOrNone : List (Option ℕ) → Type 0
AreWordsOrNone [] = ⊤
AreWordsOrNone (n ∷ ns) = IfSome n (λ number. number < 2 ^ 64) × AreWordsOrNone ns

-- each number of a fact has 64 bits, as a field's has
abbrev pub HasFieldNumbers : Fact → Type 0
HasFieldNumbers (Counted name n) = n < 2 ^ 64
HasFieldNumbers (Bare name n) = n < 2 ^ 64
HasFieldNumbers (Worded name word) = ⊤
HasFieldNumbers (Named name word) = ⊤
HasFieldNumbers (Marked name holds) = ⊤
HasFieldNumbers (Chosen name holds word other) = ⊤
HasFieldNumbers (Listed name each numbers) = AreWordSized numbers
HasFieldNumbers (Sparse name numbers) = AreWordsOrNone numbers

-- the same of each of these facts
abbrev pub HaveFieldNumbers : List Fact → Type 0
HaveFieldNumbers [] = ⊤
HaveFieldNumbers (fact ∷ facts) = HasFieldNumbers fact × HaveFieldNumbers facts

-- by the grammar of JSON, the text of a report's object is a document, and its value is that object: no fact is lost,
-- doubled or changed, whatever bytes its words have
abbrev pub ObjectsReadBack : Type 0
ObjectsReadBack =
    (facts : List Fact) → HaveFieldNumbers facts
    → document (print (json_tokens (object_of facts))) ≡ Some (object_of facts)
