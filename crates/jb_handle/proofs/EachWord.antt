-- What holds of each entry of words, and of each word by its home.
use Rattle.std.proofs.Common.{◌≡◌, ℕ, suc, ◌+◌, ◌<◌, cond, List, [], ◌∷◌, length, get_or, take, Option, Some, None, All, refl, sym, ap, subst, ◌∙◌, arith}
use Rattle.std.specs.Ordering.{nat_cmp, eq_by_cmp}
use Rattle.std.specs.Cmp.{nat_cmp_total}
use Rattle.std.specs.FinMap as map
use Rattle.std.proofs.lemmas.Bool.{cond_both}
use Rattle.std.proofs.lemmas.Bool.Decides.{nat_tests}
use Rattle.std.proofs.lemmas.List.{get_or_default}
use Rattle.std.proofs.lemmas.List.Elements.{All-more, All-nil}
use Rattle.jb_handle.specs.HomeSearch.{StandsAt}
use Rattle.jb_handle.specs.declared.word.Word.{Word}
use Rattle.jb_handle.specs.Word.{HasBytes, EntryHasBytes, AreWords}
use Rattle.jb_handle.proofs.RisingHomes.{find-stands, view-put}

pub no-words : AreWords []
no-words = record { rising = tt; bytes = All-nil EntryHasBytes }

-- one entry more
pub all-more : {A : Type 0} (P : A → Type 0) (xs : List A) (i : ℕ) (d : A) → i < length xs → All P (take i xs) → P (get_or xs i d) → All P (take (i + 1) xs)
all-more P xs i d within so one = All-more P xs i d within so one

module _ {W : Type 0} (P : ℕ → W → Type 0) where
  -- what is found is the first entry's word, or one of the others
  found-case : (b : ℕ) (w : W) (e : ℕ × W) (rest : Option W) → cond (eq_by_cmp nat_cmp b e.0) (Some e.1) rest ≡ Some w → P e.0 e.1 → (rest ≡ Some w → P b w) → P b w
  found-case b w e rest is here later =
      cond_both (eq_by_cmp nat_cmp b e.0) (Some e.1) rest (λ o. o ≡ Some w → P b w)
      (λ tied this. let home : e.0 ≡ b = grind (arith, nat_tests, tied) in let same : e.1 ≡ w = cc in subst (P b) same (subst (λ q. P q e.1) home here)) (λ _. later) is

  found-all : (b : ℕ) (w : W) (es : List (ℕ × W)) → All (λ e. P e.0 e.1) es → map.find nat_cmp b es ≡ Some w → P b w
  found-all b w [] all is = let never : ◌≡◌ {A = Option W} None (Some w) = is in absurd (let h : ⊥ = cc in h)
  found-all b w (e ∷ es) all is = found-case b w e (map.find nat_cmp b es) is (all 0 e (omega arith)) (found-all b w es (λ k d within. all (suc k) d (omega arith)))

  -- what holds of each entry holds of the word of each home
  pub each-word : (m : map.FinMap nat_cmp W) → All (λ e. P e.0 e.1) (map.entries m) → (b : ℕ) (w : W) → map.get m b ≡ Some w → P b w
  each-word m all b w is = found-all b w (map.entries m) all (sym (map.get-entries m b) ∙ is)

  -- and the other way
  pub each-entry : (m : map.FinMap nat_cmp W) → ((b : ℕ) (w : W) → map.get m b ≡ Some w → P b w) → All (λ e. P e.0 e.1) (map.entries m)
  each-entry m each k d within =
      let e = get_or (map.entries m) k d in
      let stands : StandsAt (map.entries m) e.0 k = record { inside = within; home = λ x. ap (λ (y : ℕ × W). y.0) (get_or_default (map.entries m) k x d within) } in
      each e.0 e.1 (map.get-entries m e.0 ∙ find-stands (map.entries m) (map.entries_sorted m) e.0 k d stands)

  -- what holds of each word still does where one of which it holds is put
  pub each-put : (m : map.FinMap nat_cmp W) (b : ℕ) (w : W) → P b w → ((q : ℕ) (v : W) → map.get m q ≡ Some v → P q v) → (q : ℕ) (v : W) → map.get (map.insert m b w) q ≡ Some v → P q v
  each-put m b w new each q v is = found-case q v (b, w) (map.get m q) (sym (map.get-insert nat_cmp_total m b w q) ∙ is) new (each q v)

-- words stay words where a further one is put
pub put-words : (es fs : List (ℕ × Word)) → AreWords es → (b : ℕ) (w : Word) → HasBytes w → map.put nat_cmp b w es ≡ fs → AreWords fs
put-words es fs are b w fit is =
    let m = map.from_sorted {R = nat_cmp} es in
    let view = view-put es fs m refl are.rising b w is in
    let each = each-word (λ q. HasBytes) m (subst (All EntryHasBytes) (sym (map.entries-from_sorted nat_cmp es are.rising)) are.bytes) in
    record {
      rising = view.0;
      bytes =
          subst (All EntryHasBytes) (ap map.entries (sym view.1) ∙ map.entries-from_sorted nat_cmp fs view.0)
          (each-entry (λ q. HasBytes) (map.insert m b w) (each-put (λ q. HasBytes) m b w fit each));
    }
