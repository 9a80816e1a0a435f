-- Homes that are new to a set, by their words.
use Rattle.std.specs.Prelude.{ℕ, Bool, not, ◌&&◌, List, Option, Some, None}
use Rattle.std.specs.List.{count_by}
use Rattle.std.specs.Ordering.{nat_cmp}
use Rattle.std.specs.FinSet as set
use Rattle.jb_handle.specs.declared.word.Word.{Word}

-- whether a home is of a kind, once it has this word: as before where it has none
abbrev pub later : (Option Word → Bool) → Option Word → Bool → Bool
later kind None before = before
later kind (Some w) before = kind (Some w)

-- whether an entry's home is not in the set, and its word is of a kind
abbrev pub is_new : (Word → Bool) → set.FinSet nat_cmp → ℕ × Word → Bool
is_new kind met e = kind e.1 && not (set.contains met e.0)

-- how many entries are of a kind, and of homes that are not in the set
abbrev pub new_homes : (Word → Bool) → set.FinSet nat_cmp → List (ℕ × Word) → ℕ
new_homes kind met es = count_by (is_new kind met) es
