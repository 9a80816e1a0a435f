-- Where a text is parted: the bytes before the first delimiter, and those from it on.
use Rattle.std.proofs.Common.{◌≡◌, ◌∙◌, sym, ap, ℕ, ◌+◌, ◌-◌, ◌<◌, ◌≤◌, List, [], ◌∷◌, ◌++◌, length, take, drop, get_or, refl, inl, inr, zero, suc, length-append, length-drop, arith, Option, Some, None, ◌==◌, true}
use Rattle.std.proofs.lemmas.Bool.{eq-eqb, eqb-true, ne_eqb, cases_eq}
use Rattle.jb_text.specs.Parts.{before, onward, grow, lines, words, words_in, FirstLine}

-- the parts of bytes whose first n are no delimiter, and of which the next one is, if there is one
pub parts-at : (delimiter : ℕ) (bs : List ℕ) (n : ℕ) → n ≤ length bs → ((k : ℕ) → k < n → (get_or bs k 0 == delimiter) ≡ true → ⊥)
    → (n < length bs → (get_or bs n 0 == delimiter) ≡ true) → (take n bs ≡ before delimiter bs) × (drop n bs ≡ onward delimiter bs)
unfolding before onward
parts-at delimiter [] zero within none here = (refl, refl)
parts-at delimiter [] (suc n) within none here = (refl, refl)
parts-at delimiter (b ∷ bs) zero within none here = rw (here (omega arith)) (refl, refl)
parts-at delimiter (b ∷ bs) (suc n) within none here =
    let rest = parts-at delimiter bs n (omega (arith, within)) (λ k below. none (suc k) (omega (arith, below))) (λ more. here (omega (arith, more))) in
    rw (ne_eqb b delimiter (λ same. none 0 (omega arith) (eq-eqb b delimiter same))) (ap (λ xs. b ∷ xs) rest.0, rest.1)

pub parted : (delimiter : ℕ) (bs : List ℕ) → before delimiter bs ++ onward delimiter bs ≡ bs
unfolding before onward
parted delimiter [] = refl
parted delimiter (b ∷ bs) = elim (cases_eq b delimiter) [
  | inl same ↦ rw (eq-eqb b delimiter same) refl
  | inr other ↦ rw (ne_eqb b delimiter other) (ap (λ xs. b ∷ xs) (parted delimiter bs))
]

-- the lengths of the parts, and of what is after the delimiter
pub part-lengths : (delimiter : ℕ) (text line behind rest : List ℕ) → line ≡ before delimiter text → behind ≡ onward delimiter text → rest ≡ drop 1 behind
    → (length line + length behind ≡ length text) × (length rest ≡ length behind - 1)
part-lengths delimiter text line behind rest front back tail =
    (rw (front, back) (sym (length-append (before delimiter text) (onward delimiter text)) ∙ ap length (parted delimiter text)), ap length tail ∙ length-drop 1 behind)

-- the first line, and the lines after its end
lines-part : (b : ℕ) (bs : List ℕ) → lines (b ∷ bs) ≡ before 10 (b ∷ bs) ∷ lines (drop 1 (onward 10 (b ∷ bs)))
unfolding lines before onward
lines-part b [] = elim (cases_eq b 10) [ inl same ↦ rw (eq-eqb b 10 same) refl | inr other ↦ rw (ne_eqb b 10 other) refl ]
lines-part b (c ∷ bs) = elim (cases_eq b 10) [ inl same ↦ rw (eq-eqb b 10 same) refl | inr other ↦ rw (ne_eqb b 10 other) (ap (grow b) (lines-part c bs)) ]

-- what stands after the first byte, if there is one
abbrev pub rest_of : List ℕ → Option (List ℕ)
rest_of [] = None
rest_of (b ∷ bs) = Some bs

-- the first word, and the words after the space after it
pub words-part : (bs : List ℕ) → words bs ≡ before 32 bs ∷ words_in (rest_of (onward 32 bs))
unfolding words before onward
words-part [] = refl
words-part (b ∷ bs) = elim (cases_eq b 32) [ inl same ↦ rw (eq-eqb b 32 same) refl | inr other ↦ rw (ne_eqb b 32 other) (ap (grow b) (words-part bs)) ]

-- no byte is left where there are none
pub none-left : (bs : List ℕ) → length bs < 1 → bs ≡ []
none-left [] few = refl
none-left (b ∷ bs) few = absurd (omega arith)

-- what `part` gives at an LF is the first line
pub first-line : (text line behind rest : List ℕ) → 0 < length text → line ≡ before 10 text → behind ≡ onward 10 text → rest ≡ drop 1 behind → FirstLine text line rest
first-line [] line behind rest some front back tail = absurd (omega arith)
first-line (b ∷ bs) line behind rest some front back tail =
    let lengths = part-lengths 10 (b ∷ bs) line behind rest front back tail in
    record {
      parts = lines-part b bs ∙ rw (sym back, sym tail, sym front) refl;
      within = omega (arith, lengths);
      shorter = omega (arith, lengths);
    }

-- what `part` gives at a space is the last word, or one with words after it
pub words-last : (text word behind : List ℕ) → word ≡ before 32 text → behind ≡ onward 32 text → length behind < 1 → words text ≡ word ∷ []
words-last text word behind front back few = words-part text ∙ rw (sym front, sym back, none-left behind few) refl

pub words-more : (text word behind rest : List ℕ) → word ≡ before 32 text → behind ≡ onward 32 text → rest ≡ drop 1 behind → 1 ≤ length behind → words text ≡ word ∷ words rest
words-more text word [] rest front back tail some = absurd (omega arith)
words-more text word (b ∷ bs) rest front back tail some = words-part text ∙ rw (sym front, sym back, tail) refl

-- the test for no bytes
pub empty-lines : (text : List ℕ) → (length text == 0) ≡ true → lines text ≡ []
unfolding lines
empty-lines [] empty = refl
empty-lines (b ∷ bs) empty = let none = eqb-true (length (b ∷ bs)) 0 empty in absurd (omega arith)
