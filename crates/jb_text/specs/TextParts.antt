-- A text in parts.
use Rattle.std.specs.Prelude.{ℕ, List, [], ◌∷◌, ◌++◌}

-- the parts of a text, one after the other
abbrev pub spelled : List (List ℕ) → List ℕ
spelled [] = []
spelled (part ∷ parts) = part ++ spelled parts
