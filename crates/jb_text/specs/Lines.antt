-- The grammar of lines: which lines make which text.
use Rattle.std.specs.Prelude.{◌≡◌, ◌⊎◌, ℕ, List, [], ◌∷◌, ◌++◌}

-- lines, each ended by an LF
abbrev pub ended : List (List ℕ) → List ℕ
ended [] = []
ended (line ∷ more) = line ++ 10 ∷ ended more

-- lines with an LF between each two
abbrev pub joined_lines : List (List ℕ) → List ℕ
joined_lines [] = []
joined_lines (line ∷ []) = line
joined_lines (line ∷ next ∷ more) = line ++ 10 ∷ joined_lines (next ∷ more)

-- lines make a text, whose last LF may be missing
abbrev pub AreLines : List (List ℕ) → List ℕ → Type 0
AreLines all text = (text ≡ ended all) ⊎ (text ≡ joined_lines all)
