-- The first wrong word of a handle is the one at which reading ends.
use Rattle.std.proofs.Common.{subst, ◌≡◌, ◌⊎◌, ◌∙◌, sym, ap, ℕ, ◌^◌, ◌<◌, ◌≤◌, ◌==◌, ◌&&◌, nat_lt, nat_le, true, false, if◌then◌else◌, List, [], ◌∷◌, ◌++◌, length, refl, arith, Result, Ok, Err, inl, inr, codes, decimal, MatchResult, append-nil}
use Rattle.std.specs.Char.{is_ascii_digit}
use Rattle.std.proofs.lemmas.Result.{MatchResult-at_ok, MatchResult-weaker, MatchResult-at_err}
use Rattle.std.proofs.lemmas.List.Elements.{recursion_from_All}
use Rattle.std.proofs.lemmas.Bool.{eqb-true}
use Rattle.std.proofs.lemmas.Bool.Decides.{nat_tests}
use Rattle.hex.specs.Hex.{decode_of, is_hex_digit}
use Rattle.hex.proofs.HexLemmas.{decode_of-ok}
use Rattle.hex.specs.declared.error.FromHexError.{FromHexError}
use Rattle.jb_queue.specs.declared.fault.Cause.{Cause}
use Rattle.jb_queue.specs.declared.fault.Cause.TheVariants.{OpWord, DataWord}
use Rattle.jb_handle.specs.declared.word.Word.TheVariants.{Copy, Free}
use Rattle.jb_block.specs.Fields.{padded}
use Rattle.jb_text.specs.Parts.{◌>>=◌, before, onward}
use Rattle.jb_queue.specs.Queue.{home_named, or_cause, data_in_word, decoded_block, op_of, after_ops}
use Rattle.jb_queue.specs.Grammar.{HomeWord, SpellsOp}
use Rattle.jb_queue.specs.Faults.{HasNoData, IsNoOp, IsWrongWord, FirstWrongWord}
use Rattle.jb_text.proofs.ReadSteps.{then-says, if-says, wrong-is, read-by, number-form}
use Rattle.jb_text.proofs.Joins.{Without, is_clear, literal-without, without-append, test-without, Begins, onward-begins, parts-put, decimal-without}
use Rattle.jb_text.proofs.Numerals.{decimal-is_number}
use Rattle.jb_text.proofs.Splits.{parted}
use Rattle.jb_handle.specs.Word.{WordMap}
use Rattle.jb_queue.proofs.Walks.{StopsAt, each-map, walk-fails}
use Rattle.jb_queue.proofs.Ops.{ops-walk}

-- ---- A word is read exactly where it spells an op, and else something is wrong with it

-- a home block, and its numeral
pub home-from : (home : ℕ) → home < 2 ^ 64 → home_named (decimal home) ≡ Ok home
home-from home fits = rw (decimal-is_number home fits) refl

home-says : (digits : List ℕ) → MatchResult (home_named digits) (λ home. (digits ≡ decimal home) × (home < 2 ^ 64)) (λ cause. cause ≡ OpWord)
home-says digits =
    read-by number-form (λ found. MatchResult (or_cause OpWord found) (λ home. (digits ≡ decimal home) × (home < 2 ^ 64)) (λ cause. cause ≡ OpWord)) digits
    (λ none. refl) (λ home is fits. (is, fits))

-- what spells an op is read to it
fits-true : (size : ℕ) (bytes : List ℕ) → 0 < length bytes → length bytes ≤ size → (nat_lt 0 (length bytes) && nat_le (length bytes) size) ≡ true
fits-true size bytes some within = grind (arith, nat_tests, some, within)

-- a `w` word is read as what follows its number says
write-from : (size home : ℕ) (rest : List ℕ) → home < 2 ^ 64 → Begins 61 rest → op_of size (codes "w" ++ (decimal home ++ rest)) ≡ (data_in_word size rest >>= λ bytes. Ok (home, Copy bytes))
write-from size home rest fits begins =
    let parts = parts-put 61 (decimal home) rest (decimal-without 61 home refl fits) begins in
    rw (parts.0, parts.1, home-from home fits) refl

zeros-from : (size home : ℕ) → home < 2 ^ 64 → op_of size (codes "w" ++ decimal home) ≡ Ok (home, Copy (padded size []))
zeros-from size home fits = ap (λ bs. op_of size (119 ∷ bs)) (sym (append-nil (decimal home))) ∙ write-from size home [] fits tt

free-from : (size home : ℕ) → home < 2 ^ 64 → op_of size (codes "r" ++ decimal home) ≡ Ok (home, Free)
free-from size home fits = rw (home-from home fits) refl

pub op-from : (size : ℕ) (text : List ℕ) (op : HomeWord) → SpellsOp size text op → op_of size text ≡ Ok op
op-from size text op spells = elim spells.form [
  | inl zeros ↦ ap (op_of size) zeros.0 ∙ zeros-from size op.0 spells.home ∙ ap (λ word. Ok (op.0, word)) (sym zeros.1)
  | inr (inl has) ↦
      ap (op_of size) has.spelled ∙ write-from size op.0 (61 ∷ has.digits) spells.home refl
      ∙ rw (has.decoded, fits-true size has.bytes has.some has.within) (ap (λ word. Ok (op.0, word)) (sym has.left))
  | inr (inr free) ↦ ap (op_of size) free.0 ∙ free-from size op.0 spells.home ∙ ap (λ word. Ok (op.0, word)) (sym free.1)
]

-- the bytes of a block that a text of digits has not
abbrev pub NoBytes : ℕ → Result (List ℕ) FromHexError → Type 0
NoBytes size decoded = (bytes : List ℕ) → decoded ≡ Ok bytes → 0 < length bytes → length bytes ≤ size → ⊥

-- and those that it has
abbrev pub HasBytes : ℕ → Result (List ℕ) FromHexError → List ℕ → Type 0
HasBytes size decoded block = (raw : List ℕ) × (decoded ≡ Ok raw) × (0 < length raw) × (length raw ≤ size) × (block ≡ padded size raw)

pub block-says : (size : ℕ) (decoded : Result (List ℕ) FromHexError) → MatchResult (decoded_block size decoded) (HasBytes size decoded) (λ cause. (cause ≡ DataWord) × NoBytes size decoded)
block-says size (Err fault) = (refl, λ bytes never some within. cc)
block-says size (Ok raw) =
    if-says _ _ (nat_lt 0 (length raw) && nat_le (length raw) size) (Ok (padded size raw)) (Err DataWord)
    (λ holds. (raw, refl, grind (arith, nat_tests, holds), grind (arith, nat_tests, holds), refl))
    (λ other. (
      refl,
      λ bytes same some within.
          let one : bytes ≡ raw = cc in
          let never : true ≡ false = sym (fits-true size bytes some within) ∙ ap (λ bs. nat_lt 0 (length bs) && nat_le (length bs) size) one ∙ other in
          cc,
    ))

-- what is wrong with a word, by the way in which it is read
abbrev pub IsFaulty : ℕ → List ℕ → Cause → Type 0
IsFaulty size text cause = (cause ≡ OpWord) ⊎ ((cause ≡ DataWord) × HasNoData size text)

-- a word with no `=` after its number writes zeros, and one with it its bytes
data-says : (size : ℕ) (text : List ℕ) (home : ℕ) (rest : List ℕ) → text ≡ codes "w" ++ (decimal home ++ rest) → home < 2 ^ 64 → Begins 61 rest
    → MatchResult (data_in_word size rest) (λ block. SpellsOp size text (home, Copy block)) (λ cause. (cause ≡ DataWord) × HasNoData size text)
data-says size text home [] is fits begins = record { home = fits; form = inl (is ∙ ap (λ bs. 119 ∷ bs) (append-nil (decimal home)), refl) }
data-says size text home (equals ∷ digits) is fits begins =
    let spelled = is ∙ ap (λ b. 119 ∷ (decimal home ++ b ∷ digits)) begins in
    MatchResult-weaker (decoded_block size (decode_of digits)) (block-says size (decode_of digits))
    (λ block raw. record {
      home = fits;
      form = inr (inl (record { digits = digits; bytes = raw.0; spelled = spelled; decoded = raw.1; some = raw.2; within = raw.3; left = ap Copy raw.4 }));
    })
    (λ cause no. (no.0, record { home = home; digits = digits; fits = fits; spelled = spelled; none = no.1 }))

write-says : (size : ℕ) (rest : List ℕ) → MatchResult (home_named (before 61 rest) >>= λ b. data_in_word size (onward 61 rest) >>= λ bytes. Ok (b, Copy bytes)) (SpellsOp size (119 ∷ rest)) (IsFaulty size (119 ∷ rest))
write-says size rest =
    then-says _ _ (home_named (before 61 rest)) (λ b. data_in_word size (onward 61 rest) >>= λ bytes. Ok (b, Copy bytes)) (home-says (before 61 rest))
    (λ b found.
    let is = ap (λ bs. 119 ∷ bs) (sym (parted 61 rest) ∙ ap (λ bs. bs ++ onward 61 rest) found.0) in
    then-says _ _ (data_in_word size (onward 61 rest)) (λ bytes. Ok (b, Copy bytes)) (data-says size (119 ∷ rest) b (onward 61 rest) is found.1 (onward-begins 61 rest))
    (λ block spells. spells) (λ cause no. inr no))
    (λ cause same. inl same)

free-says : (size : ℕ) (rest : List ℕ) → MatchResult (home_named rest >>= λ b. Ok (b, Free)) (SpellsOp size (114 ∷ rest)) (IsFaulty size (114 ∷ rest))
free-says size rest =
    then-says _ _ (home_named rest) (λ b. Ok (b, Free)) (home-says rest)
    (λ b found. record { home = found.1; form = inr (inr (ap (λ bs. 114 ∷ bs) found.0, refl)) })
    (λ cause same. inl same)

pub op-says : (size : ℕ) (text : List ℕ) → MatchResult (op_of size text) (SpellsOp size text) (IsFaulty size text)
op-says size [] = inl refl
op-says size (letter ∷ rest) =
    if-says _ _ (letter == 119)
    (home_named (before 61 rest) >>= λ b. data_in_word size (onward 61 rest) >>= λ bytes. Ok (b, Copy bytes))
    (if letter == 114 then home_named rest >>= (λ b. Ok (b, Free)) else Err OpWord)
    (λ write. rw (eqb-true letter 119 write) (write-says size rest))
    (λ _. if-says _ _ (letter == 114) (home_named rest >>= λ b. Ok (b, Free)) (Err OpWord)
    (λ free. rw (eqb-true letter 114 free) (free-says size rest))
    (λ _. inl refl))

pub op-is : (size : ℕ) (text : List ℕ) (op : HomeWord) → op_of size text ≡ Ok op → SpellsOp size text op
op-is size text op is = MatchResult-at_ok (SpellsOp size text) (IsFaulty size text) op is (op-says size text)

-- a byte that no word has
pub record IsDelimiter (delimiter : ℕ) : Type 0 where
  pub digit : is_ascii_digit delimiter ≡ false
  pub hex : is_hex_digit delimiter ≡ false
  pub letters : is_clear delimiter (codes "wr=") ≡ true

pub space-delimits : IsDelimiter 32
space-delimits = record { digit = refl; hex = refl; letters = refl }

pub feed-delimits : IsDelimiter 10
feed-delimits = record { digit = refl; hex = refl; letters = refl }

pub op-clear : (size delimiter : ℕ) → IsDelimiter delimiter → (text : List ℕ) (op : HomeWord) → SpellsOp size text op → Without delimiter text
op-clear size delimiter is text op spells =
    let letters = literal-without delimiter (codes "wr=") is.letters in
    let number = decimal-without delimiter op.0 is.digit spells.home in
    elim spells.form [
      | inl zeros ↦ subst (Without delimiter) (sym zeros.0) (letters.0, number)
      | inr (inl has) ↦
          let hex = test-without is_hex_digit delimiter has.digits is.hex (recursion_from_All (λ c. is_hex_digit c ≡ true) has.digits (decode_of-ok has.digits has.bytes has.decoded).1) in
          subst (Without delimiter) (sym has.spelled) (letters.0, without-append delimiter (decimal op.0) (61 ∷ has.digits) number (letters.1.1.0, hex))
      | inr (inr free) ↦ subst (Without delimiter) (sym free.0) (letters.1.0, number)
    ]

-- ---- the first wrong word of a handle is the one at which reading ends

-- what is wrong with a word at which reading ends
no-op : (size : ℕ) (text : List ℕ) → op_of size text ≡ Err OpWord → IsNoOp text
no-op size text is = record {
  zeros = λ home fits same. ok-err (sym (zeros-from size home fits) ∙ ap (op_of size) (sym same) ∙ is);
  bytes = λ home digits fits same.
      let read = then-says (λ _. Unit {0}) (λ cause. cause ≡ DataWord) (decoded_block size (decode_of digits)) (λ bytes. Ok (home, Copy bytes)) (block-says size (decode_of digits))
      (λ bytes has. tt) (λ cause no. no.0) in
      let fails = sym (write-from size home (61 ∷ digits) fits refl) ∙ ap (op_of size) (sym same) ∙ is in
      let never : OpWord ≡ DataWord = MatchResult-at_err (λ _. Unit {0}) (λ cause. cause ≡ DataWord) OpWord fails read in
      cc;
  free = λ home fits same. ok-err (sym (free-from size home fits) ∙ ap (op_of size) (sym same) ∙ is);
}
  where
    ok-err : {op : HomeWord} → ◌≡◌ {A = Result HomeWord Cause} (Ok op) (Err OpWord) → ⊥
    ok-err same = cc

pub op-fault : (size : ℕ) (text : List ℕ) (cause : Cause) → op_of size text ≡ Err cause → IsWrongWord size text cause
op-fault size text cause is = elim (MatchResult-at_err (SpellsOp size text) (IsFaulty size text) cause is (op-says size text)) [
  | inl same ↦ inl (same, no-op size text (is ∙ ap Err same))
  | inr block ↦ inr block
]

-- and back
no-op-spelled : (size : ℕ) (text : List ℕ) (op : HomeWord) → SpellsOp size text op → IsNoOp text → ⊥
no-op-spelled size text op spells none = elim spells.form [
  | inl zeros ↦ none.zeros op.0 spells.home zeros.0
  | inr (inl has) ↦ none.bytes op.0 has.digits spells.home has.spelled
  | inr (inr free) ↦ none.free op.0 spells.home free.0
]

no-op-wrong : (size : ℕ) (text : List ℕ) → IsNoOp text → op_of size text ≡ Err OpWord
no-op-wrong size text none = wrong-is (op_of size text) OpWord (op-says size text) (λ op spells. no-op-spelled size text op spells none) (λ cause no. elim no [
  | inl same ↦ same
  | inr block ↦ absurd (none.bytes block.1.home block.1.digits block.1.fits block.1.spelled)
])

no-data-wrong : (size : ℕ) (text : List ℕ) → HasNoData size text → op_of size text ≡ Err DataWord
no-data-wrong size text none =
    let decoded = decode_of none.digits in
    let read = wrong-is (decoded_block size decoded) DataWord (block-says size decoded) (λ block has. none.none has.0 has.1 has.2 has.3) (λ cause no. no.0) in
    ap (op_of size) none.spelled ∙ write-from size none.home (61 ∷ none.digits) none.fits refl ∙ rw read refl

op-wrong : (size : ℕ) (text : List ℕ) (cause : Cause) → IsWrongWord size text cause → op_of size text ≡ Err cause
op-wrong size text cause wrong = elim wrong [
  | inl none ↦ no-op-wrong size text none.1 ∙ ap Err (sym none.0)
  | inr none ↦ no-data-wrong size text none.1 ∙ ap Err (sym none.0)
]

-- the words of a handle
pub ops-fault : (size : ℕ) (texts : List (List ℕ)) (stops : StopsAt (op_of size) texts) → FirstWrongWord size texts stops.fault
ops-fault size texts stops = record {
  earlier = stops.earlier;
  ops = stops.ys;
  word = stops.item;
  later = stops.later;
  parts = stops.parts;
  each = each-map (λ text op. op_of size text ≡ Ok op) (SpellsOp size) (op-is size) stops.earlier stops.ys stops.each;
  wrong = op-fault size stops.item stops.fault stops.wrong;
}

pub ops-wrong : (size : ℕ) (had : WordMap) (texts : List (List ℕ)) (cause : Cause) → FirstWrongWord size texts cause → after_ops size had texts ≡ Err cause
ops-wrong size had texts cause first =
    let reads = each-map (SpellsOp size) (λ text op. op_of size text ≡ Ok op) (op-from size) first.earlier first.ops first.each in
    ap (after_ops size had) first.parts ∙ walk-fails (ops-walk size) had first.earlier first.ops first.word first.later cause reads (op-wrong size first.word cause first.wrong)
