-- A text is read exactly where its lines, and its words, make it.
use Rattle.std.proofs.Common.{◌≡◌, ◌∙◌, sym, ap, ap₂, ℕ, ◌<◌, List, [], ◌∷◌, ◌++◌, length, take, drop, refl, arith, Some, inl, inr, bytes_eq, take-append-drop}
use Rattle.std.specs.List.{AllByRecursion}
use Rattle.std.proofs.lemmas.Bool.{eq-eqb, ne_eqb, cases_eq}
use Rattle.std.proofs.lemmas.Option.{cond_some}
use Rattle.std.proofs.lemmas.Slice.Eq.{bytes_eq-Decides}
use Rattle.jb_text.specs.Lines.{ended, joined_lines, AreLines}
use Rattle.jb_text.specs.Parts.{lines, words, grow, spaced, behind_word}
use Rattle.jb_text.proofs.Joins.{Without, lines-put, lines-one}

-- the words of a text, put together again
grow-spaced : (b : ℕ) (text : List ℕ) (pieces : List (List ℕ)) → spaced pieces ≡ 32 ∷ text → spaced (grow b pieces) ≡ 32 ∷ b ∷ text
grow-spaced b text [] is = cc
grow-spaced b text (piece ∷ more) is = let tail : piece ++ spaced more ≡ text = cc in ap (λ bs. 32 ∷ b ∷ bs) tail

pub spaced-words : (text : List ℕ) → spaced (words text) ≡ 32 ∷ text
unfolding words
spaced-words [] = refl
spaced-words (b ∷ text) = elim (cases_eq b 32) [
  | inl same ↦ rw (eq-eqb b 32 same) (ap (λ bs. 32 ∷ bs) (spaced-words text) ∙ ap (λ first. 32 ∷ first ∷ text) (sym same))
  | inr other ↦ rw (ne_eqb b 32 other) (grow-spaced b text (words text) (spaced-words text))
]

-- the lines of a text make it
grow-lines : (b : ℕ) (text : List ℕ) (pieces : List (List ℕ)) → AreLines pieces text → AreLines (grow b pieces) (b ∷ text)
grow-lines b text [] (inl none) = inr (ap (λ bs. b ∷ bs) none)
grow-lines b text [] (inr none) = inr (ap (λ bs. b ∷ bs) none)
grow-lines b text (piece ∷ more) (inl whole) = inl (ap (λ bs. b ∷ bs) whole)
grow-lines b text (piece ∷ []) (inr whole) = inr (ap (λ bs. b ∷ bs) whole)
grow-lines b text (piece ∷ next ∷ more) (inr whole) = inr (ap (λ bs. b ∷ bs) whole)

end-lines : (text : List ℕ) (pieces : List (List ℕ)) → AreLines pieces text → AreLines ([] ∷ pieces) (10 ∷ text)
end-lines text [] (inl none) = inl (ap (λ bs. 10 ∷ bs) none)
end-lines text [] (inr none) = inl (ap (λ bs. 10 ∷ bs) none)
end-lines text (next ∷ more) (inl whole) = inl (ap (λ bs. 10 ∷ bs) whole)
end-lines text (next ∷ more) (inr whole) = inr (ap (λ bs. 10 ∷ bs) whole)

pub lines-are : (text : List ℕ) → AreLines (lines text) text
unfolding lines
lines-are [] = inl refl
lines-are (b ∷ text) = elim (cases_eq b 10) [
  | inl same ↦ rw same (end-lines text (lines text) (lines-are text))
  | inr other ↦ rw (ne_eqb b 10 other) (grow-lines b text (lines text) (lines-are text))
]

-- a line of a form: no byte is an LF, and there is one byte at least
abbrev pub IsLine : List ℕ → Type 0
IsLine line = (0 < length line) × Without 10 line

ended-lines : (all : List (List ℕ)) → AllByRecursion IsLine all → lines (ended all) ≡ all
unfolding lines
ended-lines [] are = refl
ended-lines (line ∷ more) are = lines-put line (ended more) are.0.1 ∙ ap (λ ls. line ∷ ls) (ended-lines more are.1)

joined-lines : (all : List (List ℕ)) → AllByRecursion IsLine all → lines (joined_lines all) ≡ all
unfolding lines
joined-lines [] are = refl
joined-lines ([] ∷ []) are = absurd (omega (arith, are.0.0))
joined-lines ((b ∷ line) ∷ []) are = lines-one b line are.0.1
joined-lines (line ∷ next ∷ more) are = lines-put line (joined_lines (next ∷ more)) are.0.1 ∙ ap (λ ls. line ∷ ls) (joined-lines (next ∷ more) are.1)

pub are-lines : (all : List (List ℕ)) (text : List ℕ) → AreLines all text → AllByRecursion IsLine all → lines text ≡ all
are-lines all text (inl whole) are = ap lines whole ∙ ended-lines all are
are-lines all text (inr whole) are = ap lines whole ∙ joined-lines all are

-- what stands after a word makes the line with it
pub behind-is : (word line rest : List ℕ) → behind_word word line ≡ Some rest → line ≡ word ++ rest
behind-is word line rest is =
    let found = cond_some (bytes_eq (take (length word) line) word) (drop (length word) line) rest is in
    let front = (bytes_eq-Decides (take (length word) line) word).0 found.0 in
    sym (take-append-drop (length word) line) ∙ ap₂ (λ xs ys. xs ++ ys) front found.1
