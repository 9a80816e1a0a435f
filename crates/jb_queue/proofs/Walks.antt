-- A list that is read item by item, up to the first that cannot be read.
use Rattle.std.proofs.Common.{◌≡◌, ◌⊎◌, ◌∙◌, sym, ap, List, [], ◌∷◌, ◌++◌, fold, refl, Result, Ok, Err, inl, inr, MatchResult}
use Rattle.std.specs.List.{AllZip, AllByRecursion}

-- two lists whose items belong together also do so by what follows of each two
pub each-map : {A B : Type 0} (R Q : A → B → Type 0) → ((x : A) (y : B) → R x y → Q x y) → (xs : List A) (ys : List B) → AllZip R xs ys → AllZip Q xs ys
each-map R Q then [] [] each = tt
each-map R Q then (x ∷ xs) (y ∷ ys) each = (then x y each.0, each-map R Q then xs ys each.1)
each-map R Q then xs ys each = absurd each

-- and each item of the first does so by itself
pub each-all : {A B : Type 0} (R : A → B → Type 0) (P : A → Type 0) → ((x : A) (y : B) → R x y → P x) → (xs : List A) (ys : List B) → AllZip R xs ys → AllByRecursion P xs
each-all R P then [] [] each = tt
each-all R P then (x ∷ xs) (y ∷ ys) each = (then x y each.0, each-all R P then xs ys each.1)
each-all R P then xs ys each = absurd each

-- all items were read
pub record ReadsAll {X Y E : Type 0} (read : X → Result Y E) (xs : List X) : Type 0 where
  pub ys : List Y
  pub each : AllZip (λ x y. read x ≡ Ok y) xs ys

-- all items before one were read, and that one cannot be
pub record StopsAt {X Y E : Type 0} (read : X → Result Y E) (xs : List X) : Type 0 where
  pub earlier : List X
  pub ys : List Y
  pub item : X
  pub later : List X
  pub fault : E
  pub parts : xs ≡ earlier ++ item ∷ later
  pub each : AllZip (λ x y. read x ≡ Ok y) earlier ys
  pub wrong : read item ≡ Err fault

either : {X Y E : Type 0} (read : X → Result Y E) (xs : List X) → ReadsAll read xs ⊎ StopsAt read xs
either read [] = inl (record { ys = []; each = tt })
either {X = X} {Y = Y} {E = E} read (x ∷ xs) = by (read x) refl (either read xs)
  where
    by : (one : Result Y E) → read x ≡ one → ReadsAll read xs ⊎ StopsAt read xs → ReadsAll read (x ∷ xs) ⊎ StopsAt read (x ∷ xs)
    by (Err e) is further = inr (record { earlier = []; ys = []; item = x; later = xs; fault = e; parts = refl; each = tt; wrong = is })
    by (Ok y) is (inl all) = inl (record { ys = y ∷ all.ys; each = (is, all.each) })
    by (Ok y) is (inr at) = inr (record {
      earlier = x ∷ at.earlier;
      ys = y ∷ at.ys;
      item = at.item;
      later = at.later;
      fault = at.fault;
      parts = ap (λ rest. x ∷ rest) at.parts;
      each = (is, at.each);
      wrong = at.wrong;
    })

-- what is read of an item is put to what was had, and a fault ends the walk
pub record IsWalk {S X Y E F : Type 0} (read : X → Result Y E) (put : S → Y → S) (blame : S → E → F) (walk : S → List X → Result S F) : Type 0 where
  pub ends : (had : S) → walk had [] ≡ Ok had
  pub goes : (had : S) (x : X) (xs : List X) (y : Y) → read x ≡ Ok y → walk had (x ∷ xs) ≡ walk (put had y) xs
  pub fails : (had : S) (x : X) (xs : List X) (e : E) → read x ≡ Err e → walk had (x ∷ xs) ≡ Err (blame had e)

module _ {S X Y E F : Type 0} {read : X → Result Y E} {put : S → Y → S} {blame : S → E → F} {walk : S → List X → Result S F} (is : IsWalk read put blame walk) where
  pub walk-goes : (had : S) (xs : List X) (ys : List Y) → AllZip (λ x y. read x ≡ Ok y) xs ys → walk had xs ≡ Ok (fold put had ys)
  walk-goes had [] [] each = is.ends had
  walk-goes had (x ∷ xs) (y ∷ ys) each = is.goes had x xs y each.0 ∙ walk-goes (put had y) xs ys each.1
  walk-goes had xs ys each = absurd each

  pub walk-fails : (had : S) (earlier : List X) (ys : List Y) (x : X) (later : List X) (e : E) → AllZip (λ x y. read x ≡ Ok y) earlier ys → read x ≡ Err e → walk had (earlier ++ x ∷ later) ≡ Err (blame (fold put had ys) e)
  walk-fails had [] [] x later e each wrong = is.fails had x later e wrong
  walk-fails had (first ∷ earlier) (y ∷ ys) x later e each wrong = is.goes had first (earlier ++ x ∷ later) y each.0 ∙ walk-fails (put had y) earlier ys x later e each.1 wrong
  walk-fails had earlier ys x later e each wrong = absurd each

  -- a walk with a result read all items, and one with a fault stopped at one
  pub walk-says : (had : S) (xs : List X) → MatchResult (walk had xs) (λ now. (all : ReadsAll read xs) × (fold put had all.ys ≡ now)) (λ fault. (at : StopsAt read xs) × (blame (fold put had at.ys) at.fault ≡ fault))
  walk-says had xs = elim (either read xs) [
    | inl all ↦ rw (walk-goes had xs all.ys all.each) (all, refl)
    | inr at ↦ rw (ap (walk had) at.parts ∙ walk-fails had at.earlier at.ys at.item at.later at.fault at.each at.wrong) (at, refl)
  ]

  -- no item was left
  pub walk-last : (had now : S) → walk had [] ≡ Ok now → had ≡ now
  walk-last had now reads = let both : ◌≡◌ {A = Result S F} (Ok had) (Ok now) = sym (is.ends had) ∙ reads in cc

  -- the first item was read, and then the others
  pub walk-first : (had now : S) (x : X) (xs : List X) → walk had (x ∷ xs) ≡ Ok now → (y : Y) × (read x ≡ Ok y) × (walk (put had y) xs ≡ Ok now)
  walk-first had now x xs reads = by (read x) refl
    where
      by : (one : Result Y E) → read x ≡ one → (y : Y) × (read x ≡ Ok y) × (walk (put had y) xs ≡ Ok now)
      by (Ok y) given = (y, given, sym (is.goes had x xs y given) ∙ reads)
      by (Err e) given = let never : ◌≡◌ {A = Result S F} (Err (blame had e)) (Ok now) = sym (is.fails had x xs e given) ∙ reads in cc
