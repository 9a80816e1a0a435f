-- The kinds of step on a history: what each does to the view of its seat.
use Rattle.std.specs.Prelude.{◌≡◌, ℕ, ◌+◌, true, List, All}
use Rattle.std.specs.List.{sum_by}
use mathlib.Core.List.{IsPrefix}
use mathlib.Core.Option.{some}
use Rattle.atomic_table.specs.Table.{Me, Step}
use Rattle.jb_board.specs.declared.view.View.{View}
use Rattle.jb_board.specs.HistoryRule.{with_places, StandsIn}
use Rattle.jb_board.specs.View.{nobody, added, saw}

module _ {E : Type 0} where
  -- a new seat knows nothing
  abbrev pub EntersNew : Step E → Me E (View E) → ℕ → Me E (View E) → Type 0
  EntersNew step me found after = after.0 ≡ nobody

  -- what was said is added
  abbrev pub AddsEntry : Step E → Me E (View E) → ℕ → Me E (View E) → Type 0
  AddsEntry step me found after = (e : E) × (step.said ≡ some e) × (after ≡ (added e me.0, me.1))

  -- This is the history: it begins with all that the seat has seen and was told of, and has what was made for it at its
  -- places, and the rest
  pub record Sees (v : View E) (log : List E) : Type 0 where
    pub seen : IsPrefix v.seen log
    pub told : IsPrefix v.told log
    pub whole : v.keeps ≡ true → v.seen ≡ log
    pub stands : All (StandsIn log) v.mine
    pub rest : List (ℕ × E)
    pub made : (h : ℕ × E → ℕ) → sum_by h v.mine + sum_by h rest ≡ sum_by h (with_places 0 log)

  -- the history is seen as it is
  abbrev pub Looks : Step E → Me E (View E) → ℕ → Me E (View E) → Type 0
  Looks step me found after = (log : List E) × Sees me.0 log × (after ≡ (saw log me.0, me.1))
