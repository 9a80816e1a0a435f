-- What a token knows of a history, and how that is cut in two and put together.
use Rattle.std.specs.Prelude.{ℕ, Bool, true, false, List, [], ◌∷◌, ◌++◌, length}
use Rattle.jb_board.specs.declared.view.View.{View}

module _ {E : Type 0} where
  -- what a token knows
  abbrev pub view : Bool → List E → List E → List (ℕ × E) → View E
  view keeps seen told mine = record { keeps = keeps; seen = seen; told = told; mine = mine }

  -- the writer, which has made these entries
  abbrev pub writer : List E → View E
  writer seen = view true seen [] []

  -- nothing is known
  abbrev pub nobody : View E
  nobody = view false [] [] []

  -- one entry more, at the next place
  abbrev pub added : E → View E → View E
  added e v = view v.keeps (v.seen ++ e ∷ []) v.told (v.mine ++ (length v.seen, e) ∷ [])

  -- the history is seen as it is
  abbrev pub saw : List E → View E → View E
  saw log v = view v.keeps log v.told v.mine

  -- the same, without the entries that were made
  abbrev pub without_mine : View E → View E
  without_mine v = view v.keeps v.seen v.told []

  -- these entries alone
  abbrev pub only_mine : View E → View E
  only_mine v = view false [] [] v.mine

  -- what was seen alone
  abbrev pub only_seen : View E → View E
  only_seen v = view false v.seen [] []

  -- the first is told what the second has seen, and has the entries of both
  abbrev pub told_by : View E → View E → View E
  told_by v w = view v.keeps v.seen w.seen (v.mine ++ w.mine)
