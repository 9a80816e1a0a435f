-- The table of digits: each byte's value is that of the digit.
use Rattle.std.proofs.Common.{◌≡◌, ℕ, ◌+◌, ◌*◌, ◌<◌, ◌≤◌, Result, Ok, Err, IsErr, List, map, get_or, Option, Some, None, refl, ap, ◌∙◌, arith, unwrap_or}
use Rattle.std.specs.List.{range_with_len}
use Rattle.std.proofs.lemmas.List.FromFn.{get_or-map-range_with_len}
use Rattle.hex.specs.Hex.{hex_digit_value, pair_value}
use Rattle.hex.specs.declared.error.FromHexError.{FromHexError}
use Rattle.jb_queue.specs.declared.digits.TheConstants.{VALUES}

-- the value of a byte as a digit, and 255 where it is none
abbrev value_or : ℕ → ℕ
value_or c = unwrap_or (hex_digit_value c) 255

table-is : VALUES ≡ map value_or (range_with_len 0 256)
table-is = refl

table-at : (c : ℕ) → c < 256 → get_or VALUES c 0 ≡ value_or c
table-at c within = ap (λ (l : List ℕ). get_or l c 0) table-is ∙ get_or-map-range_with_len value_or 0 256 c c 0 within (omega arith)

some-below : (o : Option ℕ) (v : ℕ) → v ≡ unwrap_or o 255 → v < 16 → Some v ≡ o
some-below None v is small = absurd (let h : ⊥ = omega arith in h)
some-below (Some x) v is small = ap Some is

small : (c v : ℕ) → hex_digit_value c ≡ Some v → v < 16
small c v is = grind (arith)

none-above : (c : ℕ) (o : Option ℕ) (v : ℕ) → hex_digit_value c ≡ o → v ≡ unwrap_or o 255 → 16 ≤ v → None ≡ o
none-above c None v of is big = refl
none-above c (Some x) v of is big = absurd (let h : ⊥ = omega (arith, small c x of) in h)

pub digit-some : (c v : ℕ) → c < 256 → v ≡ get_or VALUES c 0 → v < 16 → Some v ≡ hex_digit_value c
digit-some c v within is small = some-below (hex_digit_value c) v (is ∙ table-at c within) small

pub digit-none : (c v : ℕ) → c < 256 → v ≡ get_or VALUES c 0 → 16 ≤ v → None ≡ hex_digit_value c
digit-none c v within is big = none-above c (hex_digit_value c) v refl (is ∙ table-at c within) big

pub pair-both : (h l a b i : ℕ) → hex_digit_value h ≡ Some a → hex_digit_value l ≡ Some b → pair_value h l i ≡ Ok (a * 16 + b)
pair-both h l a b i first second = rw (first, second) refl

-- what is no pair
pub err-of : (r : Result ℕ FromHexError) → IsErr r → (e : FromHexError) × (r ≡ Err e)
err-of (Ok x) is = cc
err-of (Err e) is = (e, refl)
