-- Pieces of a list: joined, of a longer list, of a part of the list, further on, and parted themselves.
use Rattle.std.proofs.Common.{◌≡◌, ℕ, zero, suc, ◌+◌, ◌-◌, ◌≤◌, List, [], ◌∷◌, ◌++◌, map, length, take, drop, slice_range, sym, refl, ap, subst, ◌∙◌, arith, append_assoc, append-nil}
use Rattle.std.proofs.lemmas.List.{drop-drop, drop-take, length-append, take-take}
use Rattle.std.proofs.lemmas.List.Folds.{drop_split}
use Rattle.std.proofs.Math.Seq.{drop-length, drop-append-add}
use Rattle.jb_cost.specs.Cut.{RisesTo, IsCut}
use Rattle.jb_cost.specs.Pieces.{joined, pieces_from, pieces}
use Rattle.jb_cost.proofs.Cuts.{rises-le}

module _ {A : Type 0} where
  -- ---- a part of a list

  -- what is taken of the rest of the first e is taken of the rest, up to e
  take-within : (n a e : ℕ) (xs : List A) → a + n ≤ e → take n (drop a (take e xs)) ≡ take n (drop a xs)
  take-within n a e xs le =
      let at : e ≡ a + (e - a) = omega arith in
      ap (λ k. take n (drop a (take k xs))) at ∙ ap (take n) (drop-take a (e - a) xs) ∙ take-take n (e - a) (drop a xs) (omega arith)

  pub pieces-take : (e a : ℕ) (es : List ℕ) (xs : List A) → RisesTo e a es → pieces_from a es (take e xs) ≡ pieces_from a es xs
  pieces-take e a [] xs rises = refl
  pieces-take e a (b ∷ bs) xs rises =
      let within : a + (b - a) ≤ e = omega (arith, rises.0, rises-le e b bs rises.1) in
      ap (λ p. p ∷ pieces_from b bs (take e xs)) (take-within (b - a) a e xs within) ∙ ap (λ ps. slice_range xs a b ∷ ps) (pieces-take e b bs xs rises.1)

  -- ---- pieces parted

  pub pieces-append : (m a : ℕ) (es fs : List ℕ) (xs : List A) → RisesTo m a es → pieces_from a (es ++ fs) xs ≡ pieces_from a es xs ++ pieces_from m fs xs
  pieces-append m a [] fs xs is = ap (λ x. pieces_from x fs xs) is
  pieces-append m a (b ∷ bs) fs xs is = ap (λ ps. slice_range xs a b ∷ ps) (pieces-append m b bs fs xs is.1)

  pub take-pieces : (n a : ℕ) (es : List ℕ) (xs : List A) → take n (pieces_from a es xs) ≡ pieces_from a (take n es) xs
  take-pieces zero a es xs = refl
  take-pieces (suc n) a [] xs = refl
  take-pieces (suc n) a (b ∷ bs) xs = ap (λ ps. slice_range xs a b ∷ ps) (take-pieces n b bs xs)

  pub drop-pieces : (n m a : ℕ) (es : List ℕ) (xs : List A) → RisesTo m a (take n es) → drop n (pieces_from a es xs) ≡ pieces_from m (drop n es) xs
  drop-pieces zero m a es xs is = ap (λ x. pieces_from x es xs) is
  drop-pieces (suc n) m a [] xs is = refl
  drop-pieces (suc n) m a (b ∷ bs) xs is = drop-pieces n m b bs xs is.1

  pub length-pieces : (a : ℕ) (es : List ℕ) (xs : List A) → length (pieces_from a es xs) ≡ length es
  length-pieces a [] xs = refl
  length-pieces a (b ∷ bs) xs = ap suc (length-pieces b bs xs)

  -- ---- lists joined

  pub joined-append : (xss yss : List (List A)) → joined (xss ++ yss) ≡ joined xss ++ joined yss
  joined-append [] yss = refl
  joined-append (xs ∷ xss) yss = ap (λ zs. xs ++ zs) (joined-append xss yss) ∙ sym (append_assoc xs (joined xss) (joined yss))

  -- after the first lists come the others
  pub drop-joined : (n : ℕ) (xss : List (List A)) (ys : List A) → drop (length (joined (take n xss))) (joined xss ++ ys) ≡ joined (drop n xss) ++ ys
  drop-joined zero xss ys = refl
  drop-joined (suc n) [] ys = refl
  drop-joined (suc n) (xs ∷ xss) ys =
      ap (λ k. drop k ((xs ++ joined xss) ++ ys)) (length-append xs (joined (take n xss)))
      ∙ ap (drop (length xs + length (joined (take n xss)))) (append_assoc xs (joined xss) ys)
      ∙ drop-append-add xs (joined xss ++ ys) (length (joined (take n xss)))
      ∙ drop-joined n xss ys

  pub joined-pieces : (e a : ℕ) (es : List ℕ) (xs : List A) → RisesTo e a es → joined (pieces_from a es xs) ++ drop e xs ≡ drop a xs
  joined-pieces e a [] xs is = ap (λ x. drop x xs) (sym is)
  joined-pieces e a (b ∷ bs) xs is =
      append_assoc (slice_range xs a b) (joined (pieces_from b bs xs)) (drop e xs)
      ∙ ap (λ ys. slice_range xs a b ++ ys) (joined-pieces e b bs xs is.1)
      ∙ sym (drop_split xs a b (let less = is.0 in omega arith))

  -- the pieces of a cut of a list make the list
  pub cut-joined : (bounds : List ℕ) (xs : List A) → IsCut (length xs) bounds → joined (pieces bounds xs) ≡ xs
  cut-joined [] xs cut = absurd cut
  cut-joined (a ∷ bs) xs cut =
      sym (append-nil _)
      ∙ ap (λ ys. joined (pieces_from a bs xs) ++ ys) (sym (drop-length xs))
      ∙ joined-pieces (length xs) a bs xs cut.1
      ∙ ap (λ x. drop x xs) cut.0

  -- ---- pieces further on

  pub pieces-shift : (base a : ℕ) (es : List ℕ) (xs : List A) → pieces_from (base + a) (map (λ e. base + e) es) xs ≡ pieces_from a es (drop base xs)
  pieces-shift base a [] xs = refl
  pieces-shift base a (b ∷ bs) xs =
      let same : (base + b) - (base + a) ≡ b - a = omega arith in
      let first : slice_range xs (base + a) (base + b) ≡ slice_range (drop base xs) a b = ap (λ n. take n (drop (base + a) xs)) same ∙ ap (take (b - a)) (sym (drop-drop a base xs)) in
      ap (λ p. p ∷ pieces_from (base + b) (map (λ e. base + e) bs) xs) first ∙ ap (λ ps. slice_range (drop base xs) a b ∷ ps) (pieces-shift base b bs xs)

pub rises-shift : (base n a : ℕ) (es : List ℕ) → RisesTo n a es → RisesTo (base + n) (base + a) (map (λ e. base + e) es)
rises-shift base n a [] is = omega (arith, is)
rises-shift base n a (b ∷ bs) is = (let less = is.0 in omega arith, rises-shift base n b bs is.1)

pub rises-append : (m e a : ℕ) (es fs : List ℕ) → RisesTo m a es → RisesTo e m fs → RisesTo e a (es ++ fs)
rises-append m e a [] fs is rises = subst (λ x. RisesTo e x fs) (sym is) rises
rises-append m e a (b ∷ bs) fs is rises = (is.0, rises-append m e b bs fs is.1 rises)
