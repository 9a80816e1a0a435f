-- Entries at their places, in histories that begin with others.
use Rattle.std.proofs.Common.{All, ◌≡◌, ℕ, zero, suc, ◌+◌, List, [], ◌∷◌, ◌++◌, length, Some, slice_get, sym, refl, ap, ◌∙◌, subst, arith, append_assoc, append-nil}
use Rattle.std.proofs.Math.Seq.{take-append_seam}
use Rattle.std.proofs.lemmas.List.Elements.{All-take}
use Rattle.std.proofs.lemmas.Option.{get_or_from_slice_get, slice_get_within}
use mathlib.Core.List.{IsPrefix}
use Rattle.jb_board.specs.HistoryRule.{with_places, StandsIn}

module _ {E : Type 0} where
  pub prefix_longer : (xs ys zs : List E) → IsPrefix xs ys → IsPrefix xs (ys ++ zs)
  prefix_longer xs ys zs p = (p.0 ++ zs, sym (append_assoc xs p.0 zs) ∙ ap (λ l. l ++ zs) p.1)

  pub prefix_nil : (ys : List E) → IsPrefix [] ys
  prefix_nil ys = (ys, refl)

  pub prefix_same : (ys : List E) → IsPrefix ys ys
  prefix_same ys = ([], append-nil ys)

  pub get_before : (xs ys : List E) (k : ℕ) (e : E) → slice_get xs k ≡ Some e → slice_get (xs ++ ys) k ≡ Some e
  get_before [] ys k e at = absurd (cc)
  get_before (x ∷ xs) ys zero e at = at
  get_before (x ∷ xs) ys (suc k) e at = get_before xs ys k e at

  pub get_last : (xs : List E) (e : E) → slice_get (xs ++ e ∷ []) (length xs) ≡ Some e
  get_last [] e = refl
  get_last (x ∷ xs) e = get_last xs e

  -- an entry that stands in a first part stands in the whole
  pub placed_on : (xs ys : List E) → IsPrefix xs ys → (e : ℕ × E) → StandsIn xs e → StandsIn ys e
  placed_on xs ys p e at = subst (λ l. slice_get l e.0 ≡ Some e.1) p.1 (get_before xs p.0 e.0 e.1 at)

  pub placed_snoc : (n : ℕ) (es : List E) (e : E) → with_places n (es ++ e ∷ []) ≡ with_places n es ++ (n + length es, e) ∷ []
  placed_snoc n [] e = ap (λ k. (k, e) ∷ []) (omega arith)
  placed_snoc n (x ∷ xs) e = ap (λ l. (n, x) ∷ l) (placed_snoc (suc n) xs e ∙ ap (λ k. with_places (suc n) xs ++ (k, e) ∷ []) (omega arith))

  -- what holds of each holds of the one that stands at a place
  pub at-place : (P : E → Type 0) (xs : List E) (k : ℕ) (x : E) → StandsIn xs (k, x) → All P xs → P x
  at-place P xs k x stands each = subst P (get_or_from_slice_get xs k x x stands) (each k x (slice_get_within xs k x stands))

  -- and of those of a first part
  pub all-first : (P : E → Type 0) (xs ys : List E) → IsPrefix xs ys → All P ys → All P xs
  all-first P xs ys p each = subst (All P) (take-append_seam xs p.0) (All-take P (length xs) (xs ++ p.0) (subst (All P) (sym p.1) each))
