-- Why a handle was refused.
use Rattle.std.proofs.Common.{◌≡◌, ℕ, ◌+◌, ◌<◌, ◌≤◌, ◌⊎◌, Bool, true, false, not, nat_le, ◌==◌, ◌&&◌, cond, length, get_or, List, [], ◌∷◌, Option, Some, inl, inr, refl, sym, ap, subst, ◌∙◌, arith}
use Rattle.std.specs.List.{Any}
use Rattle.std.specs.FinMap as map
use Rattle.std.specs.Cmp.{nat_cmp_total}
use Rattle.std.proofs.lemmas.Bool.{leb-true}
use Rattle.jb_block.specs.Size.{bytes_of}
use Rattle.jb_handle.specs.HeldChanges.{Held, first_of, is_misfit, is_spent, len_in, refusal_at}
use Rattle.jb_handle.specs.Word.{WordMap}
use Rattle.jb_handle.specs.declared.changes.TouchFault.{TouchFault}
use Rattle.jb_handle.specs.declared.changes.TouchFault.TheVariants as touch
use Rattle.jb_handle.specs.declared.shape.Shape.{Shape}
use Rattle.jb_handle.specs.declared.word.Word.{Word}
use Rattle.jb_handle.specs.declared.word.Word.TheVariants.{Copy, Free}
use Rattle.jb_tool.specs.Faults.{not_touched}
use Rattle.jb_tool.specs.RefusedHandle.{IsMisfit, IsRefusedFor}

-- one word more is at most one home more
pub few-more : (words : WordMap) (home n : ℕ) (word : Word) → map.len words ≤ n → map.len (map.insert words home word) ≤ n + 1
few-more words home n word few = let more = at (map.contains_key words home) in rw (map.len-insert nat_cmp_total words home word) more
  where
    at : (b : Bool) → cond b (map.len words) (map.len words + 1) ≤ n + 1
    at true = omega (arith, few)
    at false = omega (arith, few)

-- all credits are used
spent : (b : Bool) (credits n : ℕ) → (b && nat_le credits n) ≡ true → credits ≤ n
spent true credits n is = leb-true credits n is
spent false credits n is = let never : ◌≡◌ {A = Bool} false true = is in absurd (let h : ⊥ = cc in h)

misfit : (shape : Shape) (w : Word) → is_misfit shape (len_in w) ≡ true → IsMisfit shape w
misfit shape (Copy bytes) is = λ same. let other : not (length bytes == bytes_of shape.bs) ≡ true = is in grind (arith, other, same)
misfit shape Free is = let never : ◌≡◌ {A = Bool} false true = is in absurd (let h : ⊥ = cc in h)

-- the first of three reasons whose fact holds
first-reason : (P : TouchFault → Type 0) (a b m : Bool) (x y z fault : TouchFault) → (a ≡ true → P x) → (b ≡ true → P y) → (m ≡ true → P z) → first_of ((a, x) ∷ (b, y) ∷ (m, z) ∷ []) ≡ Some fault → P fault
first-reason P true b m x y z fault one two three is = subst P (let same : ◌≡◌ {A = Option TouchFault} (Some x) (Some fault) = is in let e : x ≡ fault = cc in e) (one refl)
first-reason P false true m x y z fault one two three is = subst P (let same : ◌≡◌ {A = Option TouchFault} (Some y) (Some fault) = is in let e : y ≡ fault = cc in e) (two refl)
first-reason P false false true x y z fault one two three is = subst P (let same : ◌≡◌ {A = Option TouchFault} (Some z) (Some fault) = is in let e : z ≡ fault = cc in e) (three refl)
first-reason P false false false x y z fault one two three is = absurd (let h : ⊥ = cc in h)

-- a word of a handle is refused for a reason that holds of it
pub not-touched : (h : Held) (words : WordMap) (es : List (ℕ × Word)) → es ≡ map.entries words → (i : ℕ) (e : ℕ × Word) → e ≡ get_or es i e → i < length es → map.len h.words ≤ i → (fault : TouchFault)
    → (fault ≡ touch.Memory) ⊎ (refusal_at h e.0 (len_in e.1) ≡ Some fault) → IsRefusedFor h.shape words (not_touched fault)
not-touched h words es same i e here inside few fault (inl none) = subst (λ (f : TouchFault). IsRefusedFor h.shape words (not_touched f)) (sym none) tt
not-touched h words es same i e here inside few fault (inr why) =
    let Reason : TouchFault → Type 0 = λ f. IsRefusedFor h.shape words (not_touched f) in
    first-reason Reason (is_spent h e.0) (nat_le h.shape.homes e.0) (is_misfit h.shape (len_in e.1)) (touch.NoCredit h.credits) (touch.OutOfRange e.0) touch.Length fault
    (λ all. let used = spent (not (map.contains_key h.words e.0)) h.credits (map.len h.words) all in let whole : map.len words ≡ length es = map.len-entries words ∙ ap length (sym same) in omega (arith, used, few, inside, whole))
    (λ out. (
      subst (λ (xs : List (ℕ × Word)). Any (λ (x : ℕ × Word). x.0 ≡ e.0) xs) same (i, e, inside, sym here, refl),
      leb-true h.shape.homes e.0 out,
    ))
    (λ long. subst (λ (xs : List (ℕ × Word)). Any (λ (x : ℕ × Word). IsMisfit h.shape x.1) xs) same (i, e, inside, sym here, misfit h.shape e.1 long))
    why
