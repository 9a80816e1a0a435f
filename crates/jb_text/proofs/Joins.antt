-- Pieces without a delimiter in them, joined by delimiters: they are parted there again.
use Rattle.std.proofs.Common.{◌≡◌, ◌≢◌, ◌∙◌, sym, ap, ℕ, ◌^◌, ◌<◌, ◌==◌, if◌then◌else◌, Bool, true, false, List, [], ◌∷◌, ◌++◌, refl, inl, inr, decimal, append-nil}
use Rattle.std.specs.Char.{is_ascii_digit}
use Rattle.std.specs.List.{AllByRecursion}
use Rattle.std.proofs.lemmas.Fmt.{digits_decimal}
use Rattle.jb_text.specs.Parts.{before, onward, grow, lines, words, spaced}
use Rattle.std.proofs.lemmas.Bool.{eq-eqb, ne_eqb, cases_eq}
use Rattle.jb_text.proofs.Numerals.{numerals}

-- no byte of a piece is the delimiter
abbrev pub Without : ℕ → List ℕ → Type 0
Without delimiter [] = Unit {0}
Without delimiter (b ∷ bs) = (b ≢ delimiter) × Without delimiter bs

-- a literal has no delimiter, by a test that computes
abbrev pub is_clear : ℕ → List ℕ → Bool
is_clear delimiter [] = true
is_clear delimiter (b ∷ bs) = if b == delimiter then false else is_clear delimiter bs

pub literal-without : (delimiter : ℕ) (bs : List ℕ) → is_clear delimiter bs ≡ true → Without delimiter bs
literal-without delimiter [] clear = tt
literal-without delimiter (b ∷ bs) clear = elim (cases_eq b delimiter) [
  | inl same ↦ let never : false ≡ true = rw (eq-eqb b delimiter same) at clear in cc
  | inr other ↦ (other, literal-without delimiter bs (rw (ne_eqb b delimiter other) at clear))
]

pub without-append : (delimiter : ℕ) (front back : List ℕ) → Without delimiter front → Without delimiter back → Without delimiter (front ++ back)
without-append delimiter [] back clear rest = rest
without-append delimiter (b ∷ front) back clear rest = (clear.0, without-append delimiter front back clear.1 rest)

-- text after a literal
pub literal-put : (delimiter : ℕ) (word text : List ℕ) → is_clear delimiter word ≡ true → Without delimiter text → Without delimiter (word ++ text)
literal-put delimiter word text clear rest = without-append delimiter word text (literal-without delimiter word clear) rest

pub spaced-without : (delimiter : ℕ) (pieces : List (List ℕ)) → 32 ≢ delimiter → AllByRecursion (Without delimiter) pieces → Without delimiter (spaced pieces)
spaced-without delimiter [] other clear = tt
spaced-without delimiter (piece ∷ more) other clear = (other, without-append delimiter piece (spaced more) clear.0 (spaced-without delimiter more other clear.1))

-- nothing, or bytes that begin with a delimiter
abbrev pub Begins : ℕ → List ℕ → Type 0
Begins delimiter [] = Unit {0}
Begins delimiter (b ∷ bs) = b ≡ delimiter

-- what is onward of a text begins so
pub onward-begins : (delimiter : ℕ) (bs : List ℕ) → Begins delimiter (onward delimiter bs)
unfolding onward
onward-begins delimiter [] = tt
onward-begins delimiter (b ∷ bs) = elim (cases_eq b delimiter) [ inl same ↦ rw (eq-eqb b delimiter same) same | inr other ↦ rw (ne_eqb b delimiter other) (onward-begins delimiter bs) ]

-- after a piece it is parted from it
pub parts-put : (delimiter : ℕ) (piece rest : List ℕ) → Without delimiter piece → Begins delimiter rest → (before delimiter (piece ++ rest) ≡ piece) × (onward delimiter (piece ++ rest) ≡ rest)
unfolding before onward
parts-put delimiter [] [] clear begins = (refl, refl)
parts-put delimiter [] (b ∷ rest) clear begins = rw (eq-eqb b delimiter begins) (refl, refl)
parts-put delimiter (b ∷ piece) rest clear begins = let more = parts-put delimiter piece rest clear.1 begins in rw (ne_eqb b delimiter clear.0) (ap (λ bs. b ∷ bs) more.0, more.1)

-- a line that is ended by an LF, and a last one that is not
pub lines-put : (line rest : List ℕ) → Without 10 line → lines (line ++ 10 ∷ rest) ≡ line ∷ lines rest
unfolding lines
lines-put [] rest clear = refl
lines-put (b ∷ line) rest clear = rw (ne_eqb b 10 clear.0) (ap (grow b) (lines-put line rest clear.1))

pub lines-one : (b : ℕ) (line : List ℕ) → Without 10 (b ∷ line) → lines (b ∷ line) ≡ (b ∷ line) ∷ []
unfolding lines
lines-one b [] clear = rw (ne_eqb b 10 clear.0) refl
lines-one b (c ∷ line) clear = rw (ne_eqb b 10 clear.0) (ap (grow b) (lines-one c line clear.1))

-- a word with a space after it, and the last one
words-put : (word rest : List ℕ) → Without 32 word → words (word ++ 32 ∷ rest) ≡ word ∷ words rest
unfolding words
words-put [] rest clear = refl
words-put (b ∷ word) rest clear = rw (ne_eqb b 32 clear.0) (ap (grow b) (words-put word rest clear.1))

words-one : (word : List ℕ) → Without 32 word → words word ≡ word ∷ []
unfolding words
words-one [] clear = refl
words-one (b ∷ word) clear = rw (ne_eqb b 32 clear.0) (ap (grow b) (words-one word clear.1))

-- spaced words are parted at their spaces
pub words-spaced : (word : List ℕ) (more : List (List ℕ)) → AllByRecursion (Without 32) (word ∷ more) → words (word ++ spaced more) ≡ word ∷ more
words-spaced word [] clear = ap words (append-nil word) ∙ words-one word clear.0
words-spaced word (next ∷ more) clear = words-put word (next ++ spaced more) clear.0 ∙ ap (λ ws. word ∷ ws) (words-spaced next more clear.1)

-- bytes that pass a test are not a delimiter that fails it
pub test-without : (test : ℕ → Bool) (delimiter : ℕ) (bs : List ℕ) → test delimiter ≡ false → AllByRecursion (λ b. test b ≡ true) bs → Without delimiter bs
test-without test delimiter [] fails all = tt
test-without test delimiter (b ∷ bs) fails all = (λ same. let never : true ≡ false = sym all.0 ∙ ap test same ∙ fails in cc, test-without test delimiter bs fails all.1)

-- a numeral has no byte but digits
pub decimal-without : (delimiter n : ℕ) → is_ascii_digit delimiter ≡ false → n < 2 ^ 64 → Without delimiter (decimal n)
decimal-without delimiter n other fits = test-without is_ascii_digit delimiter (decimal n) other (digits_decimal numerals n fits)
