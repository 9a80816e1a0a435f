-- An extent that is put after others.
use Rattle.std.proofs.Common.{◌≡◌, ◌+◌, ◌-◌, ◌^◌, ◌<◌, ◌≤◌, ℕ, suc, true, false, List, [], ◌∷◌, ◌++◌, length, min, set, Some, refl, sym, ap, arith}
use Rattle.std.specs.Prelude.{◌==◌, get_or, nat_eq, nat_lt, slice_get}
use Rattle.std.proofs.lemmas.Bool.{cond_both, eqb-true, true≢false}
use Rattle.std.proofs.lemmas.Bool.Decides.{nat_tests}
use Rattle.std.proofs.lemmas.List.Elements.{All-cons, All-head, All-nil, All-tail}
use Rattle.std.proofs.lemmas.Option.{none-some, same_Some}
use Rattle.jb_map.specs.Blocks.{extent_count}
use Rattle.jb_image.specs.Lists.{attached, extents_count_from, is_attached}
use Rattle.jb_map.specs.Twice.{AreForward}
use Rattle.jb_map.specs.declared.extent.Extent.{Extent}

-- what the last of others decides
pub attached-last : (es : List Extent) (f e : Extent) → slice_get es (length es - 1) ≡ Some f → is_attached es e ≡ (f.last + 1 == e.first)
attached-last [] f e is = absurd (none-some f is)
attached-last (g ∷ []) f e is = ap (λ x. x.last + 1 == e.first) (same_Some g f is)
attached-last (g ∷ h ∷ es) f e is =
    let less : length (g ∷ h ∷ es) - 1 ≡ suc (length (h ∷ es) - 1) = omega arith in
    attached-last (h ∷ es) f e (rw less at is)

-- one that goes on where the last ends
pub attached-set : (es : List Extent) (n : ℕ) (f d e : Extent) → n ≡ length es → f ≡ get_or es (n - 1) d → is_attached es e ≡ true → set es (n - 1) (record { first = f.first; last = e.last }) ≡ attached es e
attached-set [] n f d e count is next = absurd (true≢false (sym next))
attached-set (g ∷ []) n f d e count is next =
    let none : n - 1 ≡ 0 = omega (arith, count) in
    rw (none, next) (ap (λ x. record { first = x.first; last = e.last } ∷ []) (rw none at is))
attached-set (g ∷ h ∷ es) n f d e count is next =
    let less : n - 1 ≡ suc (length (h ∷ es) - 1) = omega (arith, count) in
    rw less (ap (λ more. g ∷ more) (attached-set (h ∷ es) (length (h ∷ es)) f d e refl (rw less at is) next))

-- any other one
pub attached-push : (es : List Extent) (e : Extent) → is_attached es e ≡ false → attached es e ≡ es ++ e ∷ []
attached-push [] e apart = refl
attached-push (f ∷ []) e apart = rw apart refl
attached-push (f ∷ g ∷ fs) e apart = ap (λ more. f ∷ more) (attached-push (g ∷ fs) e apart)

-- they have its blocks besides
pub attached-count : (sum : ℕ) (es : List Extent) (e : Extent) → AreForward es → e.first ≤ e.last
    → extents_count_from sum (attached es e) ≡ min (extents_count_from sum es + extent_count e) (2 ^ 64 - 1)
attached-count sum [] e forward own = refl
attached-count sum (f ∷ []) e forward own =
    grind (arith, nat_tests, All-head (λ e. e.first ≤ e.last) f [] forward)
attached-count sum (f ∷ g ∷ fs) e forward own =
    attached-count (min (sum + extent_count f) (2 ^ 64 - 1)) (g ∷ fs) e (All-tail (λ e. e.first ≤ e.last) f (g ∷ fs) forward) own

-- none ends before it begins
pub attached-forward : (es : List Extent) (e : Extent) → AreForward es → e.first ≤ e.last → AreForward (attached es e)
attached-forward [] e forward own = All-cons (λ e. e.first ≤ e.last) e [] own (All-nil (λ e. e.first ≤ e.last))
attached-forward (f ∷ []) e forward own =
    let head = All-head (λ e. e.first ≤ e.last) f [] forward in
    let nil = All-nil (λ (e : Extent). e.first ≤ e.last) in
    cond_both (f.last + 1 == e.first) (record { first = f.first; last = e.last } ∷ []) (f ∷ e ∷ []) AreForward
    (λ next. All-cons (λ e. e.first ≤ e.last) (record { first = f.first; last = e.last }) [] (omega (arith, head, own, eqb-true (f.last + 1) e.first next)) nil)
    (λ apart. All-cons (λ e. e.first ≤ e.last) f (e ∷ []) head (All-cons (λ e. e.first ≤ e.last) e [] own nil))
attached-forward (f ∷ g ∷ fs) e forward own =
    All-cons (λ e. e.first ≤ e.last) f (attached (g ∷ fs) e) (All-head (λ e. e.first ≤ e.last) f (g ∷ fs) forward)
    (attached-forward (g ∷ fs) e (All-tail (λ e. e.first ≤ e.last) f (g ∷ fs) forward) own)

-- ---- what the code tests

pub goes-on : (es : List Extent) (f e : Extent) → slice_get es (length es - 1) ≡ Some f → 0 < e.first → nat_eq f.last (e.first - 1) ≡ is_attached es e
goes-on es f e is above = grind (arith, nat_tests, attached-last es f e is)

pub not-on : (es : List Extent) (f e : Extent) → slice_get es (length es - 1) ≡ Some f → nat_lt 0 e.first ≡ false → nat_lt 0 e.first ≡ is_attached es e
not-on es f e is none = grind (arith, nat_tests, attached-last es f e is, none)
