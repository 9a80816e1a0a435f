-- What seats hold: a finite map from seats, kept as its entries.
use Rattle.std.specs.Prelude.{◌≡◌, ℕ, List, [], ◌∷◌, Option, None}
use Rattle.std.specs.Ordering.{nat_cmp}
use Rattle.std.specs.BTreeMap.{insert_entry, is_at}
use Rattle.std.specs.Map.{lookup, set_value, remove_entry}

-- what a seat holds, if it holds something
abbrev pub get : {V : Type 0} → List (ℕ × V) → ℕ → Option V
get es seat = lookup (is_at (nat_cmp seat)) es

-- the seat holds this, and all others what they held
abbrev pub set : {V : Type 0} → List (ℕ × V) → ℕ → V → List (ℕ × V)
set es seat v = insert_entry nat_cmp es seat v

-- the seat holds this, if it held something; else nothing changes
abbrev pub change : {V : Type 0} → List (ℕ × V) → ℕ → V → List (ℕ × V)
change es seat v = set_value (is_at (nat_cmp seat)) es v

-- the seat holds nothing, and all others what they held
abbrev pub drop : {V : Type 0} → List (ℕ × V) → ℕ → List (ℕ × V)
drop es seat = remove_entry (is_at (nat_cmp seat)) es

-- no seat is listed twice
abbrev pub Once : {V : Type 0} → List (ℕ × V) → Type 0
Once [] = Unit {0}
Once (e ∷ es) = (get es e.0 ≡ None) × Once es
