-- What handles cost that only change homes, computed from the numbers of these homes.
use Rattle.std.proofs.Common.{◌≡◌, ℕ, ◌+◌, Bool, true, false, cond, not, ◌||◌, T, List, [], ◌∷◌, Option, Some, None, is_some, refl, ap, ◌∙◌, arith}
use Rattle.std.specs.List.{list_any}
use Rattle.std.specs.Option.{option_or}
use Rattle.std.specs.Ordering.{nat_cmp, eq_by_cmp}
use Rattle.std.specs.FinMap as map
use Rattle.std.specs.FinSet as set
use Rattle.std.proofs.lemmas.List.Folds.{list_any-append}
use Rattle.std.proofs.lemmas.List.Sums.{sum_by-cons}
use Rattle.jb_handle.specs.declared.word.Word.{Word}
use Rattle.jb_handle.specs.declared.word.Word.TheVariants.{Copy}
use Rattle.jb_handle.specs.Word.{is_copy, is_free}
use Rattle.jb_handle.specs.Words.{word, touched, copies, frees}
use Rattle.jb_handle.proofs.TouchedHomes.{contains-touched}
use Rattle.jb_cost.specs.declared.geometry.Geometry.{Geometry}
use Rattle.jb_cost.specs.Cost.{blocks_of, cost}
use Rattle.jb_cost.specs.Pieces.{joined}
use Rattle.jb_cost.specs.NewHomes.{is_new, new_homes}
use Rattle.jb_cost.proofs.HandleInFront.{len-copies, len-frees, no-copies, no-frees}
use Rattle.proof_clients.specs.Examples.{copies_at, wrote, wrote_from}

-- whether a home is one of these
abbrev pub is_in : List ℕ → ℕ → Bool
is_in bs q = list_any (eq_by_cmp nat_cmp q) bs

module _ (bytes : List ℕ) where
  -- the homes of each handle rise
  abbrev pub Rise : List (List ℕ) → Type 0
  Rise [] = Unit {0}
  Rise (bs ∷ rest) = T (map.is_sorted nat_cmp (copies_at bytes bs)) × Rise rest

  -- how many of these homes none of the handles has changed
  abbrev pub new : List ℕ → List (List ℕ) → ℕ
  new [] rest = 0
  new (b ∷ bs) rest = cond (not (is_in (joined rest) b)) 1 0 + new bs rest

  -- how many homes the handles have changed
  abbrev pub copied : List (List ℕ) → ℕ
  copied [] = 0
  copied (bs ∷ rest) = copied rest + new bs rest

  -- the word of a home that was written, or none
  abbrev pub word_if : Bool → Option Word
  word_if written = cond written (Some (Copy bytes)) None

  some-if : (b : Bool) → is_some (word_if b) ≡ b
  some-if true = refl
  some-if false = refl

  earlier : (b c : Bool) → cond b (Some (Copy bytes)) (word_if c) ≡ word_if (b || c)
  earlier true c = refl
  earlier false c = refl

  later : (b c : Bool) → option_or (word_if c) (word_if b) ≡ word_if (b || c)
  later true true = refl
  later true false = refl
  later false true = refl
  later false false = refl

  find-copy : (bs : List ℕ) (q : ℕ) → map.find nat_cmp q (copies_at bytes bs) ≡ word_if (is_in bs q)
  find-copy [] q = refl
  find-copy (b ∷ bs) q = ap (cond (eq_by_cmp nat_cmp q b) (Some (Copy bytes))) (find-copy bs q) ∙ earlier (eq_by_cmp nat_cmp q b) (is_in bs q)

  -- the last word of such handles on a home
  pub word-wrote : (t : ℕ) (rest : List (List ℕ)) → Rise rest → (q : ℕ) → word (wrote_from bytes t rest) q ≡ word_if (is_in (joined rest) q)
  word-wrote t [] rise q = refl
  word-wrote t (bs ∷ rest) rise q =
      rw (word-wrote (t + 1) rest rise.1 q, map.get-from_sorted nat_cmp (copies_at bytes bs) q rise.0, find-copy bs q, list_any-append (eq_by_cmp nat_cmp q) bs (joined rest))
      (later (is_in bs q) (is_in (joined rest) q))

  new-copies : (t : ℕ) (bs : List ℕ) (rest : List (List ℕ)) → Rise rest → new_homes is_copy (touched (wrote_from bytes t rest)) (copies_at bytes bs) ≡ new bs rest
  new-copies t [] rest rise = refl
  new-copies t (b ∷ bs) rest rise =
      sum_by-cons (λ x. cond {A = ℕ} (is_new is_copy (touched (wrote_from bytes t rest)) x) 1 0) (b, Copy bytes) (copies_at bytes bs)
      ∙ (λ i. cond {A = ℕ} (not ((contains-touched (wrote_from bytes t rest) b ∙ ap is_some (word-wrote t rest rise b) ∙ some-if (is_in (joined rest) b)) i)) 1 0 + new-copies t bs rest rise i)

  new-frees : (met : set.FinSet nat_cmp) (bs : List ℕ) → new_homes is_free met (copies_at bytes bs) ≡ 0
  new-frees met [] = refl
  new-frees met (b ∷ bs) =
      let sum = sum_by-cons (λ x. cond {A = ℕ} (is_new is_free met x) 1 0) (b, Copy bytes) (copies_at bytes bs) in
      omega (arith, sum, new-frees met bs)

  copied-len : (t : ℕ) (rest : List (List ℕ)) → Rise rest → set.len (copies (wrote_from bytes t rest)) ≡ copied rest
  copied-len t [] rise = no-copies
  copied-len t (bs ∷ rest) rise =
      rw (len-copies (wrote bytes t bs) (wrote_from bytes (t + 1) rest), copied-len (t + 1) rest rise.1, map.entries-from_sorted nat_cmp (copies_at bytes bs) rise.0)
      (ap (λ n. copied rest + n) (new-copies (t + 1) bs rest rise.1))

  freed-len : (t : ℕ) (rest : List (List ℕ)) → Rise rest → set.len (frees (wrote_from bytes t rest)) ≡ 0
  freed-len t [] rise = no-frees
  freed-len t (bs ∷ rest) rise =
      rw (len-frees (wrote bytes t bs) (wrote_from bytes (t + 1) rest), freed-len (t + 1) rest rise.1, map.entries-from_sorted nat_cmp (copies_at bytes bs) rise.0)
      (ap (λ n. 0 + n) (new-frees (touched (wrote_from bytes (t + 1) rest)) bs))

  -- what such handles cost as one group
  pub cost-wrote : (g : Geometry) (t : ℕ) (rest : List (List ℕ)) → Rise rest → cost g (wrote_from bytes t rest) ≡ blocks_of g (copied rest) 0
  cost-wrote g t rest rise = (λ i. blocks_of g (copied-len t rest rise i) (freed-len t rest rise i))
