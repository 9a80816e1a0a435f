-- The lines of a certificate are read exactly where they show their values.
use Rattle.std.proofs.Common.{subst, ◌≡◌, ◌∙◌, sym, ap, ℕ, ◌<◌, Bool, true, false, if◌then◌else◌, List, [], ◌∷◌, ◌++◌, length, map, refl, arith, append_assoc, append-nil, IsSome, Option, option_map, Some, None, Err, codes, decimal, bytes_eq, ne_eqb}
use Rattle.std.specs.Char.{is_ascii_digit}
use Rattle.std.specs.List.{AllByRecursion}
use Rattle.std.proofs.lemmas.Fmt.{digits_decimal, decimal_nonempty}
use Rattle.std.proofs.lemmas.Option.{option_and_then_some, same_Some}
use Rattle.std.proofs.lemmas.Slice.Eq.{bytes_eq-Decides}
use Rattle.jb_text.specs.Parts.{words, spaced, read_first, number_of}
use Rattle.jb_text.proofs.Grammar.{spaced-words}
use Rattle.jb_text.proofs.Joins.{Without, literal-put, literal-without, spaced-without, words-spaced, decimal-without}
use Rattle.jb_text.proofs.Numerals.{AreDigits, numerals}
use Rattle.jb_text.proofs.ReadSteps.{IsForm, number-form, read-by, behind-read}
use Rattle.jb_text.proofs.Splits.{words-part}
use Rattle.jb_price.specs.declared.fault.CertFault.TheVariants.{Syntax}
use Rattle.jb_price.specs.Certificate.{price_text}
use Rattle.jb_price.specs.Claims.{after_each, on_line, price_in_word, prices_in, bounds_in, cut_in, total_in}
use Rattle.jb_price.specs.Grammar.{first_line}
use Rattle.jb_price.specs.ReadBack.{Fits64, PriceFits}

-- ---- the words of a line, read one by one

module _ {A : Type 0} (read : List ℕ → Option A) (had : List A) (word : List ℕ) (more : List (List ℕ)) where
  each-goes : (x : A) → read word ≡ Some x → after_each read had (word ∷ more) ≡ after_each read (had ++ x ∷ []) more
  unfolding after_each
  each-goes x is = rw is refl

  each-fails : read word ≡ None → after_each read had (word ∷ more) ≡ None
  unfolding after_each
  each-fails is = rw is refl

-- the first of some words, if there is one, says a value
abbrev pub FirstSays : {A : Type 0} → (List ℕ → Option A) → List (List ℕ) → Type 0
FirstSays read [] = Unit {0}
FirstSays read (word ∷ more) = IsSome (read_first read (word ∷ more))

-- there is a first word
pub first-some : {A : Type 0} (read : List ℕ → Option A) (text : List ℕ) → FirstSays read (words text) → IsSome (read_first read (words text))
first-some read text says = rw words-part (rw words-part at says)

-- all words say what those that are left do after what was read; the first of them says a value, if the first that is left does
pub record EachTo {A : Type 0} (read : List ℕ → Option A) (all : List (List ℕ)) (had : List A) (left : List (List ℕ)) : Type 0 where
  pub goes : after_each read had left ≡ after_each read [] all
  pub first : FirstSays read left → FirstSays read all

module _ {A : Type 0} {read : List ℕ → Option A} {all : List (List ℕ)} {had : List A} where
  module _ {word : List ℕ} {more : List (List ℕ)} (so : EachTo read all had (word ∷ more)) where
    -- a word is read
    pub word-goes : (x : A) → read word ≡ Some x → EachTo read all (had ++ x ∷ []) more
    word-goes x is = record { goes = sym (each-goes read had word more x is) ∙ so.goes; first = λ _. so.first (rw is refl) }

    pub word-fails : (at : ℕ) → read word ≡ None → on_line at (after_each read [] all) ≡ Err (Syntax at)
    word-fails at is = ap (on_line at) (sym so.goes ∙ each-fails read had word more is)

  -- all words were read
  pub words-end : EachTo read all had [] → after_each read [] all ≡ Some had
  unfolding after_each
  words-end so = sym so.goes

-- ---- values that are shown word by word

-- a byte that no word has
abbrev IsGap : ℕ → Type 0
IsGap delimiter = (is_ascii_digit delimiter ≡ false) × Without delimiter (codes "none")

-- one value at least, and each fits
abbrev pub SomeFit : {A : Type 0} → (A → Type 0) → List A → Type 0
SomeFit Fits xs = (0 < length xs) × AllByRecursion Fits xs

-- the values that words are read to
record ReadsEach {A : Type 0} (show : A → List ℕ) (Fits : A → Type 0) (had now : List A) (ws : List (List ℕ)) : Type 0 where
  items : List A
  whole : now ≡ had ++ items
  shown : ws ≡ map show items
  fit : AllByRecursion Fits items

module _ {A : Type 0} {read : List ℕ → Option A} {show : A → List ℕ} {Fits : A → Type 0} (form : IsForm read show Fits) where
  each-is : (had now : List A) (ws : List (List ℕ)) → after_each read had ws ≡ Some now → ReadsEach show Fits had now ws
  unfolding after_each
  each-is had now [] reads = record { items = []; whole = sym (same_Some had now reads) ∙ sym (append-nil had); shown = refl; fit = tt }
  each-is had now (w ∷ ws) reads = option_and_then_some (λ x. after_each read (had ++ x ∷ []) ws) (read w) now reads (λ x is later.
      let further = each-is (had ++ x ∷ []) now ws later in
      let shown = form.is w x is in
      record {
        items = x ∷ further.items;
        whole = further.whole ∙ append_assoc had (x ∷ []) further.items;
        shown = ap (λ v. v ∷ ws) shown.0 ∙ ap (λ vs. show x ∷ vs) further.shown;
        fit = (shown.1, further.fit);
      })

  -- a text that is read shows one value at least
  row-is : (text : List ℕ) (now : List A) → after_each read [] (words text) ≡ Some now → (32 ∷ text ≡ spaced (map show now)) × SomeFit Fits now
  row-is text now reads =
      let are = each-is [] now (words text) reads in
      let shown = sym (spaced-words text) ∙ ap spaced are.shown ∙ ap (λ xs. spaced (map show xs)) (sym are.whole) in
      (shown, (some now shown, subst (AllByRecursion Fits) (sym are.whole) are.fit))
    where
      some : (now : List A) → 32 ∷ text ≡ spaced (map show now) → 0 < length now
      some [] is = cc
      some (x ∷ now) is = omega arith

  each-back : (had xs : List A) → AllByRecursion Fits xs → after_each read had (map show xs) ≡ Some (had ++ xs)
  unfolding after_each
  each-back had [] all = ap Some (sym (append-nil had))
  each-back had (x ∷ xs) all = rw (form.back x all.0) (each-back (had ++ x ∷ []) xs all.1 ∙ ap Some (append_assoc had (x ∷ []) xs))

  module _ (clear : (delimiter : ℕ) → IsGap delimiter → (x : A) → Fits x → Without delimiter (show x)) where
    each-clear : (delimiter : ℕ) → IsGap delimiter → (xs : List A) → AllByRecursion Fits xs → AllByRecursion (Without delimiter) (map show xs)
    each-clear delimiter gap [] all = tt
    each-clear delimiter gap (x ∷ xs) all = (clear delimiter gap x all.0, each-clear delimiter gap xs all.1)

    -- and a text that shows values is read to them
    row-back : (x : A) (xs : List A) → AllByRecursion Fits (x ∷ xs) → after_each read [] (words (show x ++ spaced (map show xs))) ≡ Some (x ∷ xs)
    row-back x xs fits = ap (after_each read []) (words-spaced (show x) (map show xs) (each-clear 32 (refl, literal-without 32 (codes "none") refl) (x ∷ xs) fits)) ∙ each-back [] (x ∷ xs) fits

    row-clear : (xs : List A) → AllByRecursion Fits xs → Without 10 (spaced (map show xs))
    row-clear xs fits = spaced-without 10 (map show xs) (λ same. cc) (each-clear 10 (refl, literal-without 10 (codes "none") refl) xs fits)

-- ---- the line of the prices

-- a numeral is not `none`
digits-not_none : (digits rest : List ℕ) → AreDigits digits → 0 < length digits → bytes_eq (digits ++ rest) (codes "none") ≡ false
digits-not_none [] rest are some = absurd (omega arith)
digits-not_none (digit ∷ digits) rest are some = rw (ne_eqb digit 110 (λ same. let never : true ≡ false = sym are.0 ∙ ap is_ascii_digit same in cc)) refl

decimal-not_none : (n : ℕ) (rest : List ℕ) → Fits64 n → bytes_eq (decimal n ++ rest) (codes "none") ≡ false
decimal-not_none n rest fits = digits-not_none (decimal n) rest (digits_decimal numerals n fits) (decimal_nonempty n fits)

price-is : (w : List ℕ) (p : Option ℕ) → price_in_word w ≡ Some p → (w ≡ price_text p) × PriceFits p
price-is w p is = from (bytes_eq w (codes "none")) refl is
  where
    from : (test : Bool) → bytes_eq w (codes "none") ≡ test → ◌≡◌ {A = Option (Option ℕ)} (if test then Some None else option_map Some (number_of w)) (Some p) → (w ≡ price_text p) × PriceFits p
    from true same gives = let none : None ≡ p = cc in subst (λ q. (w ≡ price_text q) × PriceFits q) none ((bytes_eq-Decides w (codes "none")).0 same, tt)
    from false same gives = read-by number-form (λ n. ◌≡◌ {A = Option (Option ℕ)} (option_map Some n) (Some p) → (w ≡ price_text p) × PriceFits p) w (λ _ none. cc)
        (λ n is fits gives. let some : Some n ≡ p = cc in subst (λ q. (w ≡ price_text q) × PriceFits q) some (is, fits)) gives

price-back : (price : Option ℕ) → PriceFits price → price_in_word (price_text price) ≡ Some price
price-back None fits = refl
price-back (Some n) fits =
    let other : bytes_eq (decimal n) (codes "none") ≡ false = ap (λ bs. bytes_eq bs (codes "none")) (sym (append-nil (decimal n))) ∙ decimal-not_none n [] fits in
    rw (other, number-form.back n fits) refl

price-form : IsForm price_in_word price_text PriceFits
price-form = record { is = price-is; back = price-back }

price-clear : (delimiter : ℕ) → IsGap delimiter → (price : Option ℕ) → PriceFits price → Without delimiter (price_text price)
price-clear delimiter gap None fits = gap.1
price-clear delimiter gap (Some n) fits = decimal-without delimiter n gap.0 fits

pub prices-form : IsForm prices_in first_line (SomeFit PriceFits)
prices-form = record { is = is; back = back }
  where
    is : (line : List ℕ) (prices : List (Option ℕ)) → prices_in line ≡ Some prices → (line ≡ first_line prices) × SomeFit PriceFits prices
    is line prices reads =
        let found = behind-read (codes "prices ") line (λ text. after_each price_in_word [] (words text)) prices reads in
        let are = row-is price-form found.0 prices found.2 in
        (found.1 ∙ ap (λ bs. codes "prices" ++ bs) are.0, are.1)

    back : (prices : List (Option ℕ)) → SomeFit PriceFits prices → prices_in (first_line prices) ≡ Some prices
    back [] fits = absurd (omega (arith, fits.0))
    back (price ∷ prices) fits = row-back price-form price-clear price prices fits.1

pub first-clear : (prices : List (Option ℕ)) → AllByRecursion PriceFits prices → Without 10 (first_line prices)
first-clear prices fits = literal-put 10 (codes "prices") _ refl (row-clear price-form price-clear prices fits)

-- ---- the lines of the cut

-- the line of a cut, or of none
abbrev pub cut_line : Option (List ℕ) → List ℕ
cut_line None = codes "cut none"
cut_line (Some bounds) = codes "cut" ++ spaced (map decimal bounds)

abbrev pub BoundsFit : Option (List ℕ) → Type 0
BoundsFit None = Unit {0}
BoundsFit (Some bounds) = SomeFit Fits64 bounds

bound-clear : (delimiter : ℕ) → IsGap delimiter → (bound : ℕ) → Fits64 bound → Without delimiter (decimal bound)
bound-clear delimiter gap bound fits = decimal-without delimiter bound gap.0 fits

pub cut-form : IsForm cut_in cut_line BoundsFit
cut-form = record { is = is; back = back }
  where
    from : (text : List ℕ) (cut : Option (List ℕ)) (test : Bool) (read : Option (List ℕ)) → bytes_eq text (codes "none") ≡ test → after_each number_of [] (words text) ≡ read
        → ◌≡◌ {A = Option (Option (List ℕ))} (if test then Some None else option_map Some read) (Some cut) → (codes "cut " ++ text ≡ cut_line cut) × BoundsFit cut
    from text cut true read same reads gives =
        let none : None ≡ cut = cc in
        subst (λ c. (codes "cut " ++ text ≡ cut_line c) × BoundsFit c) none (ap (λ bs. codes "cut " ++ bs) ((bytes_eq-Decides text (codes "none")).0 same), tt)
    from text cut false None same reads gives = cc
    from text cut false (Some bounds) same reads gives =
        let some : Some bounds ≡ cut = cc in
        let are = row-is number-form text bounds reads in
        subst (λ c. (codes "cut " ++ text ≡ cut_line c) × BoundsFit c) some (ap (λ bs. codes "cut" ++ bs) are.0, are.1)

    is : (line : List ℕ) (cut : Option (List ℕ)) → cut_in line ≡ Some cut → (line ≡ cut_line cut) × BoundsFit cut
    is line cut reads =
        let found = behind-read (codes "cut ") line bounds_in cut reads in
        let shown = from found.0 cut _ _ refl refl found.2 in
        (found.1 ∙ shown.0, shown.1)

    back : (cut : Option (List ℕ)) → BoundsFit cut → cut_in (cut_line cut) ≡ Some cut
    back None fits = refl
    back (Some []) fits = absurd (omega (arith, fits.0))
    back (Some (bound ∷ bounds)) fits = rw (decimal-not_none bound (spaced (map decimal bounds)) fits.1.0) (ap (option_map Some) (row-back number-form bound-clear bound bounds fits.1))

pub second-clear : (bounds : List ℕ) → AllByRecursion Fits64 bounds → Without 10 (codes "cut" ++ spaced (map decimal bounds))
second-clear bounds fits = literal-put 10 (codes "cut") _ refl (row-clear number-form bound-clear bounds fits)

pub total-form : IsForm total_in (λ total. codes "total " ++ decimal total) Fits64
total-form = record {
  is = λ line total reads.
      let found = behind-read (codes "total ") line number_of total reads in
      let number = number-form.is found.0 total found.2 in
      (found.1 ∙ ap (λ bs. codes "total " ++ bs) number.0, number.1);
  back = number-form.back;
}

pub third-clear : (total : ℕ) → Fits64 total → Without 10 (codes "total " ++ decimal total)
third-clear total fits = literal-put 10 (codes "total ") _ refl (decimal-without 10 total refl fits)
