-- The numbers that a text spells: the digits are those that `decimal` writes.
use Rattle.std.proofs.Common.{◌≡◌, ◌∙◌, sym, ap, ℕ, ◌+◌, ◌-◌, ◌*◌, ◌^◌, ◌<◌, ◌≤◌, true, nat_lt, slice_index, List, [], ◌∷◌, length, drop, get_or, refl, arith, rules, Option, Some, None, inl, inr, decimal}
use Rattle.std.specs.Char.{is_ascii_digit}
use Rattle.std.specs.List.{AllByRecursion}
use Rattle.std.proofs.lemmas.Bool.Decides.{nat_tests}
use Rattle.std.proofs.lemmas.Bool.{ne_eqb, lt-ltb, cases_lt}
use Rattle.std.proofs.Math.Bool.{and-false}
use Rattle.std.proofs.lemmas.List.{drop_all, drop_more}
use Rattle.std.proofs.lemmas.Fmt.{decimal-digits_value, digits_value-decimal, digits_decimal, first_decimal, decimal_nonempty, decimal_digit}
use Rattle.std.proofs.lemmas.Str.Parse.{IsNumeralModel, numerals_by_fold}
use Rattle.jb_text.specs.Parts.{with_digit, and_then, number_from, number_of}

-- the loop over digits: the next one of those that are left, from the value so far
pub digit-next : (digits : List ℕ) (at value : ℕ) → at < length digits → number_from value (drop at digits) ≡ number_from 0 digits
    → and_then (with_digit value (get_or digits at 0)) (λ more. number_from more (drop (at + 1) digits)) ≡ number_from 0 digits
unfolding number_from
digit-next digits at value within so_far = ap (number_from value) (sym (drop_more digits at 0 within)) ∙ so_far

-- each byte is a digit
abbrev pub AreDigits : List ℕ → Type 0
AreDigits digits = AllByRecursion (λ digit. is_ascii_digit digit ≡ true) digits

-- the number that digits write after those of a value, without a bound
abbrev pub value_from : ℕ → List ℕ → ℕ
value_from value [] = value
value_from value (digit ∷ digits) = value_from (value * 10 + (digit - 48)) digits

pub numerals : IsNumeralModel AreDigits (value_from 0)
numerals = numerals_by_fold _ (search rules) value_from (search rules)

pub value-grows : (value : ℕ) (digits : List ℕ) → value ≤ value_from value digits
value-grows value [] = omega arith
value-grows value (digit ∷ digits) = let more = value-grows (value * 10 + (digit - 48)) digits in omega arith

pub digit-ends : (digits : List ℕ) (at value : ℕ) → length digits ≤ at → number_from value (drop at digits) ≡ number_from 0 digits → Some value ≡ number_from 0 digits
unfolding number_from
digit-ends digits at value past so_far = ap (number_from value) (sym (drop_all at digits past)) ∙ so_far

-- what a number read from these digits says of them
abbrev pub Reads : ℕ → List ℕ → ℕ → Type 0
Reads value digits n = AreDigits digits × (value_from value digits ≡ n) × (n < 2 ^ 64)

reads-more : (value digit : ℕ) (digits : List ℕ) (n : ℕ) (o : Option ℕ) → with_digit value digit ≡ o → and_then o (λ more. number_from more digits) ≡ Some n
    → ((more : ℕ) → more < 2 ^ 64 → number_from more digits ≡ Some n → Reads more digits n) → Reads value (digit ∷ digits) n
reads-more value digit digits n None is gives rest = cc
reads-more value digit digits n (Some more) is gives rest =
    let same : value * 10 + (digit - 48) ≡ more = grind (arith, nat_tests, is) in
    let behind = rest more (grind (arith, nat_tests, is)) gives in
    ((grind (arith, nat_tests, is), behind.0), ap (λ v. value_from v digits) same ∙ behind.1, behind.2)

-- the digits that a number is read from, and its value
pub number-reads : (value : ℕ) (digits : List ℕ) (n : ℕ) → value < 2 ^ 64 → number_from value digits ≡ Some n → Reads value digits n
unfolding number_from
number-reads value [] n small reads = let same : value ≡ n = cc in (tt, same, omega arith)
number-reads value (digit ∷ digits) n small reads =
    reads-more value digit digits n (with_digit value digit) refl reads (λ more fits. number-reads more digits n fits)

-- digits whose value fits are read to it
pub number-spells : (value : ℕ) (digits : List ℕ) → AreDigits digits → value_from value digits < 2 ^ 64 → number_from value digits ≡ Some (value_from value digits)
unfolding number_from
number-spells value [] are fits = refl
number-spells value (digit ∷ digits) are fits =
    let grows = value-grows (value * 10 + (digit - 48)) digits in
    let small : nat_lt (value * 10 + (digit - 48)) (2 ^ 64) ≡ true = lt-ltb _ _ (omega arith) in
    rw (are.0, small) (number-spells (value * 10 + (digit - 48)) digits are.1 fits)

-- a number is read from exactly the text that spells it
pub number-is_decimal : (digits : List ℕ) (n : ℕ) → number_of digits ≡ Some n → (digits ≡ decimal n) × (n < 2 ^ 64)
number-is_decimal digits n reads =
    let found = number-reads 0 digits n (omega arith) (grind (arith, nat_tests, reads)) in
    (sym (decimal-digits_value numerals digits found.0 (grind (arith, nat_tests, reads)) (λ first. grind (arith, nat_tests, reads, first)) (rw found.1 found.2)) ∙ ap decimal found.1, found.2)

positive-is_number : (n : ℕ) → 0 < n → n < 2 ^ 64 → number_of (decimal n) ≡ Some n
positive-is_number n some fits =
    let digits = decimal n in
    let long = decimal_nonempty n fits in
    let first = first_decimal n some fits in
    let value = digits_value-decimal numerals n fits in
    let read = number-spells 0 digits (digits_decimal numerals n fits) (rw value fits) in
    rw (ne_eqb (length digits) 0 (λ e. omega arith), ne_eqb (slice_index digits 0) 48 (λ e. omega arith), and-false) (read ∙ ap Some value)

pub decimal-is_number : (n : ℕ) → n < 2 ^ 64 → number_of (decimal n) ≡ Some n
unfolding number_from
decimal-is_number n fits = elim (cases_lt 0 n) [
  | inl some ↦ positive-is_number n some fits
  | inr least ↦ let none : n ≡ 0 = omega (arith, least) in rw none (rw (decimal_digit 0 (omega arith)) refl)
]
