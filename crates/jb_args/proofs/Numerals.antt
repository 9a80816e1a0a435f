-- The numbers that options give.
use Rattle.std.proofs.Common.{◌≡◌, ◌∙◌, ◌^◌, ◌&&◌, ℕ, Bool, true, false, List, [], ◌∷◌, length, Option, Some, None, Result, Ok, Err, nat_lt, refl, sym, ap, lt-ltb, ltb-true}
use Rattle.std.specs.Char.{digit_value}
use Rattle.std.specs.List.{list_all}
use Rattle.std.specs.Prelude.{option_and_then}
use Rattle.std.specs.Str.Parse.{AllDigits, ExplainsUnsignedError, HasUnsignedDigitsIfOk, ParsesUnsigned, digits_value, without_leading_plus}
use Rattle.std.specs.declared.num.ParseIntError.{ParseIntError}
use Rattle.clap.proofs.WalkLemmas.{both, one_text-rows}
use Rattle.clap.specs.Matches.{ReadsOne, one_text}
use Rattle.clap.specs.Words.{Text, rows_of}
use Rattle.clap.specs.declared.parser.matches.Found.{Found}
use Rattle.jb_args.specs.PlainCommand.{number_in, number_said}

digits_pass : (ds : List ℕ) → AllDigits 10 ds → list_all (λ d. nat_lt (digit_value d) 10) ds ≡ true
digits_pass [] h = refl
digits_pass (d ∷ ds) h = rw (lt-ltb (digit_value d) 10 h.0) (digits_pass ds h.1)

digits_from : (ds : List ℕ) → list_all (λ d. nat_lt (digit_value d) 10) ds ≡ true → AllDigits 10 ds
digits_from [] e = tt
digits_from (d ∷ ds) e =
    let parts = both _ _ e in
    (ltb-true _ _ parts.0, digits_from ds parts.1)

abbrev is_word : List ℕ → Bool
is_word ds = nat_lt 0 (length ds) && (list_all (λ d. nat_lt (digit_value d) 10) ds && nat_lt (digits_value 10 ds) (2 ^ 64))

-- the number that was read
abbrev ok_of : {E : Type 0} → Result ℕ E → Option ℕ
ok_of (Ok n) = Some n
ok_of (Err e) = None

-- a text that parses says its number, and one that does not says none
said_is : {E : Type 0} (text : Text) (r : Result ℕ E) (o : Option ℕ) → ParsesUnsigned 64 10 text r → ok_of r ≡ o → o ≡ number_said text
said_is text (Ok n) o h is =
    let ds = without_leading_plus text in
    sym is ∙ rw (lt-ltb 0 (length ds) h.0.0.0, digits_pass ds h.0.0.1, lt-ltb (digits_value 10 ds) (2 ^ 64) h.0.1) (ap Some h.1)
said_is text (Err e) o h is = sym is ∙ go (is_word (without_leading_plus text)) refl
  where
    go : (b : Bool) → is_word (without_leading_plus text) ≡ b → None ≡ number_said text
    go false t = rw t refl
    go true t =
        let outer = both _ _ t in
        let inner = both _ _ outer.1 in
        absurd (h ((ltb-true _ _ outer.0, digits_from (without_leading_plus text) inner.0), ltb-true _ _ inner.1))

-- what reading a text as a `u64` gives
abbrev reads_u64 : Text → Result ℕ ParseIntError → Type 0
reads_u64 text r = ParsesUnsigned 64 10 text r × ExplainsUnsignedError 10 text r × HasUnsignedDigitsIfOk text r

-- what the getter reads under a name is the number there
pub number_read : (f : Found) (id : Text) (o : Option ℕ) → (one_text f id ≡ None → o ≡ None)
    → ((t : Text) → one_text f id ≡ Some t → ReadsOne reads_u64 t o) → o ≡ number_in id (rows_of f)
number_read f id o none value = go (one_text f id) refl ∙ ap (option_and_then number_said) (one_text-rows f id)
  where
    read : (t : Text) (x : Option ℕ) → ReadsOne reads_u64 t x → x ≡ number_said t
    read t (Some n) h = said_is {E = ParseIntError} t (Ok n) (Some n) h.0 refl
    read t None h = said_is {E = ParseIntError} t (Err h.0) None h.1.0 refl

    go : (x : Option Text) → one_text f id ≡ x → o ≡ option_and_then number_said x
    go None is = none is
    go (Some t) is = read t o (value t is)
