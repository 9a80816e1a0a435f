-- A cut grows by one piece more at its end.
use Rattle.std.proofs.Common.{◌≡◌, ℕ, ◌+◌, ◌<◌, ◌≤◌, List, [], ◌∷◌, ◌++◌, length, get_or, inl, inr, sym, subst, ap, ◌∙◌, refl, arith}
use Rattle.std.proofs.Math.ListN.{get_or-append}
use Rattle.std.proofs.lemmas.Bool.{cases_lt}
use Rattle.std.proofs.lemmas.List.{get_or_push}
use Rattle.jb_cost.specs.Cut.{RisesTo, EachFrom, total_from, IsReached}

-- a rising list does not pass its end
pub rises-le : (n a : ℕ) (bs : List ℕ) → RisesTo n a bs → a ≤ n
rises-le n a [] same = omega (arith, same)
rises-le n a (b ∷ bs) rises = let rest : b ≤ n = rises-le n b bs rises.1 in omega (arith, rises.0)

rises-push : (n m a : ℕ) (bs : List ℕ) → RisesTo n a bs → n < m → RisesTo m a (bs ++ (m ∷ []))
rises-push n m a [] same less = (omega (arith, same), refl)
rises-push n m a (b ∷ bs) rises less = (rises.0, rises-push n m b bs rises.1 less)

each-push : (P : ℕ → ℕ → Type 0) (n m a : ℕ) (bs : List ℕ) → RisesTo n a bs → EachFrom P a bs → P n m → EachFrom P a (bs ++ (m ∷ []))
each-push P n m a [] same each p = (subst (λ x. P x m) (sym same) p, tt)
each-push P n m a (b ∷ bs) rises each p = (each.0, each-push P n m b bs rises.1 each.1 p)

total-push : (c : ℕ → ℕ → ℕ) (n m a : ℕ) (bs : List ℕ) → RisesTo n a bs → total_from c a (bs ++ (m ∷ [])) ≡ total_from c a bs + c n m
total-push c n m a [] same = let e : c a m ≡ c n m = ap (λ x. c x m) same in omega (arith, e)
total-push c n m a (b ∷ bs) rises = let rest = total-push c n m b bs rises.1 in omega (arith, rest)

-- a cut that fits, with one piece more that fits
pub reached-push : (c : ℕ → ℕ → ℕ) (limit n m p : ℕ) → IsReached c limit n p → n < m → c n m ≤ limit → IsReached c limit m (p + c n m)
reached-push c limit n m p ([], fitting, sum) less fits = absurd fitting.cut
reached-push c limit n m p (a ∷ bs, fitting, sum) less fits = (
  a ∷ (bs ++ (m ∷ [])),
  record {
    cut = (fitting.cut.0, rises-push n m a bs fitting.cut.1 less);
    fits = each-push (λ i j. c i j ≤ limit) n m a bs fitting.cut.1 fitting.fits fits;
  },
  let more = total-push c n m a bs fitting.cut.1 in more ∙ ap (λ t. t + c n m) sum,
)

-- no handles are cut into no pieces, which cost nothing
pub reached-none : (c : ℕ → ℕ → ℕ) (limit : ℕ) → IsReached c limit 0 0
reached-none c limit = (0 ∷ [], record { cut = (refl, refl); fits = tt }, refl)

-- what holds at each place of a list, and of one item more, holds at each place of the longer list
pub places-push : {A : Type 0} (d : A) (P : ℕ → A → Type 0) (xs : List A) (x : A) → ((k : ℕ) → k < length xs → P k (get_or xs k d)) → P (length xs) x
    → (k : ℕ) → k < length xs + 1 → P k (get_or (xs ++ x ∷ []) k d)
places-push d P xs x each last k inside = elim (cases_lt k (length xs)) [
  | inl less ↦ rw (get_or-append xs (x ∷ []) d k less) (each k less)
  | inr more ↦ let same : length xs ≡ k = omega (arith, more, inside) in rw (get_or_push xs x d k same) (subst (λ n. P n x) same last)
]
