-- A change that is not refused leaves a handle within its credits and its shape.
use Rattle.std.proofs.Common.{◌≡◌, ℕ, ◌^◌, ◌<◌, ◌≤◌, Bool, true, false, nat_le, ◌≢◌, [], ◌∷◌, Option, Some, None, Result, Ok, Err, IfErr, sym, refl, ap, ◌∙◌, arith, nat_cmp}
use Rattle.std.proofs.lemmas.Bool.{le-leb}
use Rattle.std.proofs.lemmas.Bool.Decides.{nat_tests}
use Rattle.std.specs.Cmp.{nat_cmp_total}
use Rattle.std.specs.FinMap as map
use Rattle.jb_block.specs.Size.{bytes_of}
use Rattle.jb_handle.specs.declared.word.Word.{Word}
use Rattle.jb_handle.specs.declared.word.Word.TheVariants.{Copy, Free}
use Rattle.jb_handle.specs.declared.shape.Shape.{Shape}
use Rattle.jb_handle.specs.declared.changes.TouchFault.{TouchFault}
use Rattle.jb_handle.specs.declared.changes.TouchFault.TheVariants.{NoCredit, OutOfRange, Length}
use Rattle.jb_handle.specs.HeldChanges.{Held, held, FitsWord, IsKept, is_spent, is_misfit, first_of, len_in, refusal_at, put_at}
use Rattle.jb_handle.proofs.EachWord.{each-put}

-- no words are within any credits, and fit any shape
pub kept-new : (credits : ℕ) (shape : Shape) → credits < 2 ^ 32 → IsKept (held credits shape map.empty)
kept-new credits shape narrow = record {
  narrow = narrow;
  within = rw (map.len-empty nat_cmp Word) (omega arith);
  fits = λ home word is. let never : None ≡ Some word = sym (map.get-empty nat_cmp home) ∙ is in absurd (let h : ⊥ = cc in h);
}

-- what three tests let pass
pub passed : {F : Type 0} (a b c : Bool) (x y z : F) → first_of ((a, x) ∷ (b, y) ∷ (c, z) ∷ []) ≡ None → (a ≡ false) × (b ≡ false) × (c ≡ false)
passed true b c x y z is = absurd (let h : ⊥ = cc in h)
passed false true c x y z is = absurd (let h : ⊥ = cc in h)
passed false false true x y z is = absurd (let h : ⊥ = cc in h)
passed false false false x y z is = (refl, refl, refl)

fitting : (shape : Shape) (home : ℕ) (word : Word) → nat_le shape.homes home ≡ false → is_misfit shape (len_in word) ≡ false → FitsWord shape home word
fitting shape home (Copy bytes) there misfit = (grind (arith, nat_tests), grind (arith, nat_tests))
fitting shape home Free there misfit = grind (arith, nat_tests)

-- a word that fits, where there is a credit for it, keeps the rest
pub word-kept : (h : Held) (home : ℕ) (word : Word) → IsKept h → refusal_at h home (len_in word) ≡ None → IsKept (put_at h home word)
word-kept h home word kept none =
    let p = passed (is_spent h home) (nat_le h.shape.homes home) (is_misfit h.shape (len_in word)) (NoCredit h.credits) (OutOfRange home) Length none in
    record {
      narrow = kept.narrow;
      within = rw (map.len-insert nat_cmp_total h.words home word) (let room = p.0 in grind (arith, nat_tests, room, kept.within));
      fits = each-put (FitsWord h.shape) h.words home word (fitting h.shape home word p.1 p.2) kept.fits;
    }

-- ---- the first test that holds is the reason

-- by what the three tests answer
abbrev tested : Held → ℕ → (spent beyond misfit : Bool) → Option TouchFault
tested h home spent beyond misfit = first_of ((spent, NoCredit h.credits) ∷ (beyond, OutOfRange home) ∷ (misfit, Length) ∷ [])

module _ (h : Held) (home : ℕ) where
  pub refused-spent : (len : Option ℕ) → is_spent h home ≡ true → refusal_at h home len ≡ Some (NoCredit h.credits)
  refused-spent len spent = ap (λ is. tested h home is (nat_le h.shape.homes home) (is_misfit h.shape len)) spent

  module _ (room : is_spent h home ≡ false) where
    pub refused-range : (len : Option ℕ) → h.shape.homes ≤ home → refusal_at h home len ≡ Some (OutOfRange home)
    refused-range len beyond = ap (λ is. tested h home is (nat_le h.shape.homes home) (is_misfit h.shape len)) room ∙ ap (λ is. tested h home false is (is_misfit h.shape len)) (le-leb h.shape.homes home beyond)

    -- a home that is there is refused for the length alone
    here : (len : Option ℕ) → home < h.shape.homes → refusal_at h home len ≡ tested h home false false (is_misfit h.shape len)
    here len there =
        let within : nat_le h.shape.homes home ≡ false = grind (arith, nat_tests) in
        ap (λ is. tested h home is (nat_le h.shape.homes home) (is_misfit h.shape len)) room ∙ ap (λ is. tested h home false is (is_misfit h.shape len)) within

    pub refused-length : (len n : ℕ) → home < h.shape.homes → n ≡ bytes_of h.shape.bs → len ≢ n → refusal_at h home (Some len) ≡ Some Length
    refused-length len n there size other =
        let misfit : is_misfit h.shape (Some len) ≡ true = grind (arith, nat_tests) in
        here (Some len) there ∙ ap (tested h home false false) misfit

    pub granted-length : (len n : ℕ) → home < h.shape.homes → n ≡ bytes_of h.shape.bs → len ≡ n → refusal_at h home (Some len) ≡ None
    granted-length len n there size same =
        let fits : is_misfit h.shape (Some len) ≡ false = grind (arith, nat_tests) in
        here (Some len) there ∙ ap (tested h home false false) fits

    pub granted-free : home < h.shape.homes → refusal_at h home None ≡ None
    granted-free there = here None there

-- a fact that holds anyway holds where memory ran out
pub on-memory : {A E P : Type 0} (r : Result A E) (e : E) → P → IfErr r (λ fault. fault ≡ e → P)
on-memory (Ok x) e holds = tt
on-memory (Err fault) e holds = λ _. holds
