-- Texts that are written part by part, and each byte by byte.
use Rattle.std.proofs.Common.{◌≡◌, ◌+◌, ◌≤◌, ◌<◌, ℕ, List, [], ◌∷◌, ◌++◌, Option, Result, Ok, Err, min, ◌∙◌, ap, drop, get_or, length, map, sym, refl, take, ◌-◌, arith, take-add, length-drop, take_all}
use Rattle.std.proofs.Math.Seq.{take-append-add, take-length}
use Rattle.std.proofs.Math.Nat.{min-le_right}
use Rattle.std.proofs.lemmas.List.{drop_all, drop_more, take-append-le, take_min}
use Rattle.std.specs.Io.KnownBytes.{Appends}
use Rattle.std.proofs.KnownBytes.{Appends-trans}
use Rattle.jb_text.specs.TextParts.{spelled}
use Rattle.jb_text.specs.Puts.{Puts, PutsPart}

-- the beginning of a text begins whatever the text begins
pub part_first : (a b : Option (List ℕ)) (x y : List ℕ) → PutsPart a b x → PutsPart a b (x ++ y)
part_first a b x y (n, part) = (min n (length x), rw (take-append-le (min n (length x)) x y (min-le_right n (length x)), take_min n x) part)

-- a beginning after a whole text
pub part_after : (a b c : Option (List ℕ)) (x y : List ℕ) → Appends a b x → PutsPart b c y → PutsPart a c (x ++ y)
part_after a b c x y first (n, part) = (length x + n, rw (take-append-add x y n) (Appends-trans a b c x (take n y) first part))

-- a text after another, which is written whole
pub puts_after : {E : Type 0} → (a b c : Option (List ℕ)) (x y : List ℕ) (r : Result Unit E) → Appends a b x → Puts b c y r → Puts a c (x ++ y) r
puts_after a b c x y (Ok done) first more = Appends-trans a b c x y first more
puts_after a b c x y (Err fault) first more = part_after a b c x y first more

-- what was to be written is written in part
pub partly : {E : Type 0} → (a b : Option (List ℕ)) (x : List ℕ) (r : Result Unit E) → Puts a b x r → PutsPart a b x
partly a b x (Ok done) whole = (length x, rw (take-length x) whole)
partly a b x (Err fault) part = part

-- the texts that are left, by the first of them
pub spelled_next : {A : Type 0} (text : A → List ℕ) (xs : List A) (k : ℕ) (other : A) (x : List ℕ) → k < length xs → x ≡ text (get_or xs k other)
    → x ++ spelled (map text (drop (k + 1) xs)) ≡ spelled (map text (drop k xs))
spelled_next text xs k other x within is =
    ap (λ first. first ++ spelled (map text (drop (k + 1) xs))) is ∙ sym (ap (λ rest. spelled (map text rest)) (drop_more xs k other within))

-- no text is left
pub spelled_none : {A : Type 0} (text : A → List ℕ) (xs : List A) (k : ℕ) → length xs ≤ k → [] ≡ spelled (map text (drop k xs))
spelled_none text xs k past = sym (ap (λ rest. spelled (map text rest)) (drop_all k xs past))

-- a beginning of an empty text is empty
pub none_first : (x y : List ℕ) → x ++ y ≡ [] → x ≡ []
none_first [] y none = refl
none_first (a ∷ x) y none = cc

-- what is left of an empty text is empty
pub none_after : (x y : List ℕ) → x ++ y ≡ [] → y ≡ []
none_after [] y none = none
none_after (a ∷ x) y none = cc

-- ---- more bytes of a text after the first ones

-- what is after the first m, read to the end
pub rest_all : (text : List ℕ) (m : ℕ) → take (length text - m) (drop m text) ≡ drop m text
rest_all text m = take_all (length text - m) (drop m text) (omega (arith, length-drop m text))

-- n more bytes after the first m
pub puts_more : (a b c : Option (List ℕ)) (text : List ℕ) (m n : ℕ) → Appends a b (take m text)
    → Appends b c (take n (take (length text - m) (drop m text))) → Appends a c (take (m + n) text)
puts_more a b c text m n first second = rw (take-add m n text) (Appends-trans a b c (take m text) (take n (drop m text)) first (rw (rest_all text m) at second))

-- so many more bytes are still within the text
pub within_more : (text : List ℕ) (m n : ℕ) → m ≤ length text → n ≤ length (take (length text - m) (drop m text)) → m + n ≤ length text
within_more text m n within more = let rest = rw (rest_all text m) at more in omega (arith, length-drop m text, rest)
