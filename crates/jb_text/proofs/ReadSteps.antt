-- What is read, or what is wrong: both of a reading that goes step by step.
use Rattle.std.proofs.Common.{◌≡◌, ap, sym, ◌∙◌, ℕ, ◌^◌, ◌<◌, Bool, true, false, if◌then◌else◌, refl, List, [], ◌∷◌, ◌++◌, Option, option_map, Some, None, Result, Ok, Err, MatchResult, option_and_then, decimal}
use Rattle.std.proofs.lemmas.Option.{none-some, option_and_then_some}
use Rattle.jb_text.specs.Parts.{◌>>=◌, behind_word, read_first, number_of}
use Rattle.jb_text.proofs.Grammar.{behind-is}
use Rattle.jb_text.proofs.Numerals.{number-is_decimal, decimal-is_number}

-- a step, and the next one if it gave a value
pub then-says : {A B E : Type 0} {P : A → Type 0} {Q : E → Type 0} (P' : B → Type 0) (Q' : E → Type 0) (first : Result A E) (next : A → Result B E)
    → MatchResult first P Q → ((x : A) → P x → MatchResult (next x) P' Q') → ((e : E) → Q e → Q' e) → MatchResult (first >>= next) P' Q'
then-says P' Q' (Ok x) next says further wrong = further x says
then-says P' Q' (Err e) next says further wrong = wrong e says

-- one of two, by a test
pub if-says : {A E : Type 0} (P : A → Type 0) (Q : E → Type 0) (test : Bool) (one other : Result A E)
    → (test ≡ true → MatchResult one P Q) → (test ≡ false → MatchResult other P Q) → MatchResult (if test then one else other) P Q
if-says P Q true one other holds fails = holds refl
if-says P Q false one other holds fails = fails refl

-- where no value can be, and the fault is known
pub wrong-is : {A E : Type 0} {P : A → Type 0} {Q : E → Type 0} (read : Result A E) (cause : E) → MatchResult read P Q → ((x : A) → P x → ⊥) → ((e : E) → Q e → e ≡ cause) → read ≡ Err cause
wrong-is (Ok x) cause says none same = absurd (none x says)
wrong-is (Err e) cause says none same = ap Err (same e says)

-- what a result is, where it is known
pub known : {A E : Type 0} (read : Result A E) → MatchResult read (λ x. read ≡ Ok x) (λ e. read ≡ Err e)
known (Ok x) = refl
known (Err e) = refl

-- a line is read exactly where it shows a value that fits
pub record IsForm {A : Type 0} (read : List ℕ → Option A) (show : A → List ℕ) (Fits : A → Type 0) : Type 0 where
  pub is : (line : List ℕ) (x : A) → read line ≡ Some x → (line ≡ show x) × Fits x
  pub back : (x : A) → Fits x → read (show x) ≡ Some x

-- the first of some lines shows no value
abbrev pub NoneShown : {A : Type 0} → (A → List ℕ) → (A → Type 0) → List (List ℕ) → Type 0
NoneShown {A} show Fits all = (x : A) (more : List (List ℕ)) → all ≡ show x ∷ more → Fits x → ⊥

module _ {A : Type 0} {read : List ℕ → Option A} {show : A → List ℕ} {Fits : A → Type 0} (form : IsForm read show Fits) where
  -- what holds where a line shows no value, and where it shows one, holds of what is read of it
  pub read-by : (P : Option A → Type 0) (line : List ℕ) → (((x : A) → line ≡ show x → Fits x → ⊥) → P None) → ((x : A) → line ≡ show x → Fits x → P (Some x)) → P (read line)
  read-by P line none some = by (read line) refl
    where
      by : (got : Option A) → read line ≡ got → P got
      by None is = none (λ x same fits. none-some x (sym is ∙ ap read same ∙ form.back x fits))
      by (Some x) is = let shown = form.is line x is in some x shown.0 shown.1

  -- and so of the first of some lines
  pub first-by : (P : Option (A × List (List ℕ)) → Type 0) (all : List (List ℕ)) → (NoneShown show Fits all → P None)
      → ((x : A) (more : List (List ℕ)) → all ≡ show x ∷ more → Fits x → P (Some (x, more))) → P (read_first read all)
  first-by P [] none some = none (λ x more is fits. cc)
  first-by P (line ∷ more) none some =
      read-by (λ got. P (option_map (λ x. (x, more)) got)) line (λ other. none (λ x rest is fits. other x (let one : line ≡ show x = cc in one) fits))
      (λ x is fits. some x more (ap (λ l. l ∷ more) is) fits)

  -- nothing is read where it shows no value
  pub first-none : (all : List (List ℕ)) → NoneShown show Fits all → read_first read all ≡ None
  first-none all none = first-by (λ got. got ≡ None) all (λ _. refl) (λ x more is fits. absurd (none x more is fits))

-- a number is read exactly where it is shown
pub number-form : IsForm number_of decimal (λ n. n < 2 ^ 64)
number-form = record { is = number-is_decimal; back = decimal-is_number }

-- what a line says after its first word
pub behind-read : {A : Type 0} (word line : List ℕ) (read : List ℕ → Option A) (x : A) → option_and_then read (behind_word word line) ≡ Some x → (text : List ℕ) × (line ≡ word ++ text) × (read text ≡ Some x)
behind-read word line read x reads = option_and_then_some read (behind_word word line) x reads (λ text found gives. (text, behind-is word line text found, gives))
