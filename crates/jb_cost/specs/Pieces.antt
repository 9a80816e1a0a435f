-- Lists cut into pieces, and joined again.
use Rattle.std.specs.Prelude.{ℕ, List, [], ◌∷◌, ◌++◌, slice_range}

-- the lists one after the other
abbrev pub joined : {A : Type 0} → List (List A) → List A
joined [] = []
joined (xs ∷ rest) = xs ++ joined rest

-- the pieces of a list from a on, each up to one of the ends
abbrev pub pieces_from : {A : Type 0} → ℕ → List ℕ → List A → List (List A)
pieces_from a [] xs = []
pieces_from a (b ∷ bs) xs = slice_range xs a b ∷ pieces_from b bs xs

-- the pieces of a list between bounds
abbrev pub pieces : {A : Type 0} → List ℕ → List A → List (List A)
pieces [] xs = []
pieces (a ∷ bs) xs = pieces_from a bs xs
