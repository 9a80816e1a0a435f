-- What is known of a writer after a call to write a text to it.
use Rattle.std.specs.Prelude.{ℕ, List, Option, Result, Ok, Err, take}
use Rattle.std.specs.Io.KnownBytes.{Appends}

-- the writer holds the beginning of the text after what it held
abbrev pub PutsPart : Option (List ℕ) → Option (List ℕ) → List ℕ → Type 0
PutsPart old new text = (n : ℕ) × Appends old new (take n text)

-- the writer holds the whole text after what it held, or its beginning where the writing failed
abbrev pub Puts : {E : Type 0} → Option (List ℕ) → Option (List ℕ) → List ℕ → Result Unit E → Type 0
Puts old new text (Ok done) = Appends old new text
Puts old new text (Err fault) = PutsPart old new text
