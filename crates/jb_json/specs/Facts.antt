-- What a report says: facts, each with a name.
use Rattle.std.specs.Prelude.{ℕ, Bool, List, Option, option_map, map}
use Rattle.jb_text.specs.TextParts.{spelled}
use Rattle.jb_json.specs.declared.field.Field.{Field}
use Rattle.jb_json.specs.declared.field.Field.TheVariants as field

-- a fact, by the name that it has in JSON
pub data Fact : Type 0 where
  -- a number, which a line has after the name
  Counted : List ℕ → ℕ → Fact
  -- a number, which a line has alone
  Bare : List ℕ → ℕ → Fact
  -- a word, which a line has alone
  Worded : List ℕ → List ℕ → Fact
  -- a word, which a line has alone where there is one
  Named : List ℕ → Option (List ℕ) → Fact
  -- whether something holds: a line has the name where it does, and else nothing
  Marked : List ℕ → Bool → Fact
  -- whether something holds: a line has the first word where it does, and else the second
  Chosen : List ℕ → Bool → List ℕ → List ℕ → Fact
  -- numbers, each of which has a line of its own, after this word
  Listed : List ℕ → List ℕ → List ℕ → Fact
  -- numbers of which some are missing, of which a line has nothing
  Sparse : List ℕ → List (Option ℕ) → Fact

-- what a field says
abbrev pub fact_of : Field → Fact
fact_of (field.Counted name number) = Counted name.now number
fact_of (field.Bare name number) = Bare name.now number
fact_of (field.Worded name parts) = Worded name.now (spelled (map (λ part. part.now) parts.now))
fact_of (field.Named name word) = Named name.now (option_map (λ word. word.now) word)
fact_of (field.Marked name holds) = Marked name.now holds
fact_of (field.Chosen name holds word other) = Chosen name.now holds word.now other.now
fact_of (field.Listed name each numbers) = Listed name.now each.now numbers.now
fact_of (field.Sparse name numbers) = Sparse name.now numbers.now

-- what some fields say
abbrev pub facts_of : List Field → List Fact
facts_of fields = map fact_of fields
