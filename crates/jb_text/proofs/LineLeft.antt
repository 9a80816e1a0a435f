-- A line that is read word by word.
use Rattle.std.proofs.Common.{◌≡◌, ℕ, ◌+◌, List, [], length, refl, Option, Some, None, Bor, option_copied}
use Rattle.jb_text.specs.Parts.{words_in}

-- how much of a line is left, the space before it counted
abbrev pub left : Option (Bor (List ℕ)) → ℕ
left None = 0
left (Some text) = length text.now + 1

-- no text that is left has no words
pub none-left : (rest : Option (Bor (List ℕ))) → ((text : Bor (List ℕ)) → rest ≡ Some text → ⊥) → words_in (option_copied rest) ≡ []
none-left None ended = refl
none-left (Some text) ended = absurd (ended text refl)
