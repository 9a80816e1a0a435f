-- Which homes are written most.
use Rattle.std.specs.Prelude.{ℕ, ◌+◌, List, [], ◌∷◌, map, take, nat_eq, nat_lt, if◌then◌else◌}
use Rattle.std.specs.BTreeMap.{insert_entry, is_at}
use Rattle.std.specs.List.{count_by}
use Rattle.std.specs.Map.{lookup}
use Rattle.std.specs.Option.{unwrap_or}
use Rattle.std.specs.Ordering.{nat_cmp}

-- homes in their order, each once, with one more among them
abbrev pub home_among : ℕ → List ℕ → List ℕ
home_among home [] = home ∷ []
home_among home (other ∷ others) =
    if nat_lt home other then home ∷ other ∷ others
    else (if nat_eq home other then other ∷ others else other ∷ home_among home others)

-- homes in their order, each once, with these among them
abbrev pub homes_among : List ℕ → List ℕ → List ℕ
homes_among others [] = others
homes_among others (home ∷ homes) = homes_among (home_among home others) homes

-- how many copies a home has, where these are the homes of all copies
abbrev pub copies_to : List ℕ → ℕ → ℕ
copies_to homes home = count_by (λ other. nat_eq other home) homes

-- each home of these copies once, the lowest first, with how many copies it has
abbrev pub written_rows : List ℕ → List (ℕ × ℕ)
written_rows homes = map (λ home. (home, copies_to homes home)) (homes_among [] homes)

-- a row among others that are in the order of their rank: it comes before the first that is written less often
abbrev pub ranked_among : ℕ × ℕ → List (ℕ × ℕ) → List (ℕ × ℕ)
ranked_among row [] = row ∷ []
ranked_among row (other ∷ rows) = if nat_lt other.1 row.1 then row ∷ other ∷ rows else other ∷ ranked_among row rows

-- rows in the order of their rank, and after them, where they are written as often, the rows of a second list
abbrev pub ranked : List (ℕ × ℕ) → List (ℕ × ℕ) → List (ℕ × ℕ)
ranked rows [] = rows
ranked rows (row ∷ more) = ranked (ranked_among row rows) more

-- the first ten of the rows by their rank: those that are written most, most first, and of those that are written as
-- often the lowest homes, which come first in the rows
abbrev pub foremost : List (ℕ × ℕ) → List (ℕ × ℕ)
foremost rows = take 10 (ranked [] rows)

-- ---- the same rows, made copy by copy

-- how often a home is written, by rows of homes and numbers
abbrev pub writes_of : List (ℕ × ℕ) → ℕ → ℕ
writes_of rows home = unwrap_or (lookup (is_at (nat_cmp home)) rows) 0

-- the rows with a home that is written once more, in the order of the homes
abbrev pub once_more : List (ℕ × ℕ) → ℕ → List (ℕ × ℕ)
once_more rows home = insert_entry nat_cmp rows home (writes_of rows home + 1)

-- these rows, with homes that are written once more each
abbrev pub counted_up : List (ℕ × ℕ) → List ℕ → List (ℕ × ℕ)
counted_up rows [] = rows
counted_up rows (home ∷ homes) = counted_up (once_more rows home) homes
