-- What holds of a board between any two steps.
use Rattle.std.specs.Prelude.{◌≡◌, ℕ, List, [], ◌∷◌}
use mathlib.Core.Option.{some}
use lib.ListN.{get_elem?}
use Rattle.jb_board.specs.declared.front.Front.{Front}
use Rattle.jb_board.specs.Front.{InOrder, IsWithin}

-- the words of a board whose counts are these
abbrev pub words_of_counts : Front → List ℕ
words_of_counts now = now.stopped ∷ now.taken ∷ now.settled ∷ []

-- the words are three counts in order, and no seat's view is above them
pub record AreCountsKept (words : List ℕ) (views : List Front) : Type 0 where
  pub now : Front
  pub counts : words ≡ words_of_counts now
  pub ordered : InOrder now
  pub within : (seat : ℕ) (view : Front) → get_elem? views seat ≡ some view → IsWithin view now
