-- A report in JSON: an object whose members are its facts.
use Rattle.std.specs.Prelude.{ℕ, List, [], ◌∷◌, ◌++◌, Option, None, Some, codes, decimal}
use Rattle.json.specs.Json.{Json, null, boolean, number, string, array, object, Items, no_items, item, Members}
use Rattle.json.specs.Json.{no_members, member}
use Rattle.json.specs.Print.{print}
use Rattle.json.specs.Tree.{json_tokens}
use Rattle.jb_json.specs.Facts.{Fact, Counted, Bare, Worded, Named, Marked, Chosen, Listed, Sparse}

-- the name of a fact
abbrev pub fact_name : Fact → List ℕ
fact_name (Counted name n) = name
fact_name (Bare name n) = name
fact_name (Worded name word) = name
fact_name (Named name word) = name
fact_name (Marked name holds) = name
fact_name (Chosen name holds word other) = name
fact_name (Listed name each numbers) = name
fact_name (Sparse name numbers) = name

-- numbers as the items of an array
abbrev pub items_of : List ℕ → Items
items_of [] = no_items
items_of (n ∷ ns) = item (number (decimal n)) (items_of ns)

-- a number where there is one, and else null
abbrev pub number_or_null : Option ℕ → Json
number_or_null None = null
number_or_null (Some n) = number (decimal n)

-- numbers of which some are missing, as the items of an array
abbrev pub sparse_items : List (Option ℕ) → Items
sparse_items [] = no_items
sparse_items (n ∷ ns) = item (number_or_null n) (sparse_items ns)

-- a text where there is one, and else null
abbrev pub text_or_null : Option (List ℕ) → Json
text_or_null None = null
text_or_null (Some text) = string text

-- the value of a fact
abbrev pub fact_value : Fact → Json
fact_value (Counted name n) = number (decimal n)
fact_value (Bare name n) = number (decimal n)
fact_value (Worded name word) = string word
fact_value (Named name word) = text_or_null word
fact_value (Marked name holds) = boolean holds
fact_value (Chosen name holds word other) = boolean holds
fact_value (Listed name each numbers) = array (items_of numbers)
fact_value (Sparse name numbers) = array (sparse_items numbers)

-- facts as the members of an object
abbrev pub members_of : List Fact → Members
members_of [] = no_members
members_of (fact ∷ facts) = member (fact_name fact) (fact_value fact) (members_of facts)

-- the object of a report
abbrev pub object_of : List Fact → Json
object_of facts = object (members_of facts)

-- the JSON of a report: its object without spaces, and an LF
abbrev pub json_line : List Fact → List ℕ
json_line facts = print (json_tokens (object_of facts)) ++ codes "\n"
