-- Postings one after another: their tickets, their places, and what one leaves to the next.
use Rattle.std.proofs.Common.{◌≡◌, ℕ, zero, suc, ◌+◌, ◌<◌, ◌≤◌, List, [], ◌∷◌, ◌++◌, Option, Some, None, slice_get, refl, sym, ap, subst, ◌∙◌, arith}
use Rattle.std.proofs.lemmas.Option.{same_Some}
use Rattle.example_accounts.specs.Postings.{ArePostings, ComesAfter, IsPosting, last_posting}
use Rattle.example_accounts.specs.declared.posting.Posting.{Posting}

-- ---- one more

pub last-more : (last : Option Posting) (ps : List Posting) (p : Posting) → last_posting last (ps ++ p ∷ []) ≡ Some p
last-more last [] p = refl
last-more last (q ∷ ps) p = last-more (Some q) ps p

pub are-more : (last : Option Posting) (ps : List Posting) (p : Posting) → ArePostings last ps → IsPosting p → ComesAfter (last_posting last ps) p → ArePostings last (ps ++ p ∷ [])
are-more last [] p are is comes = (is, comes, tt)
are-more last (q ∷ ps) p are is comes = (are.0, are.1, are-more (Some q) ps p are.2 is comes)

-- ---- at a place

pub posting-at : (last : Option Posting) (ps : List Posting) → ArePostings last ps → (k : ℕ) (p : Posting) → slice_get ps k ≡ Some p → IsPosting p
posting-at last [] are k p at = absurd (cc)
posting-at last (q ∷ ps) are zero p at = subst IsPosting (same_Some q p at) are.0
posting-at last (q ∷ ps) are (suc k) p at = posting-at (Some q) ps are.2 k p at

after-ticket : (last : Posting) (ps : List Posting) → ArePostings (Some last) ps → (k : ℕ) (p : Posting) → slice_get ps k ≡ Some p → last.ticket + k < p.ticket
after-ticket last [] are k p at = absurd (cc)
after-ticket last (q ∷ ps) are zero p at = subst (λ (x : Posting). last.ticket + 0 < x.ticket) (same_Some q p at) (let above = are.1.0 in omega (arith, above))
after-ticket last (q ∷ ps) are (suc k) p at =
    let rest = after-ticket q ps are.2 k p at in
    let above = are.1.0 in
    omega (arith, rest, above)

-- a ticket is no lower than the place
pub from-place : (ps : List Posting) → ArePostings None ps → (k : ℕ) (p : Posting) → slice_get ps k ≡ Some p → k ≤ p.ticket
from-place [] are k p at = absurd (cc)
from-place (q ∷ ps) are zero p at = omega arith
from-place (q ∷ ps) are (suc k) p at = let rest = after-ticket q ps are.2 k p at in omega (arith, rest)

-- a higher ticket stands at a later place
pub later : (last : Option Posting) (ps : List Posting) → ArePostings last ps → (i j : ℕ) (p q : Posting) → slice_get ps i ≡ Some p → slice_get ps j ≡ Some q → p.ticket < q.ticket → i < j
later last [] are i j p q one two higher = absurd (cc)
later last (x ∷ ps) are zero zero p q one two higher =
    let same : p.ticket ≡ q.ticket = ap (λ (y : Posting). y.ticket) (sym (same_Some x p one) ∙ same_Some x q two) in
    absurd (omega (arith, higher, same))
later last (x ∷ ps) are zero (suc j) p q one two higher = omega arith
later last (x ∷ ps) are (suc i) zero p q one two higher =
    let above = after-ticket x ps are.2 i p one in
    let same : x.ticket ≡ q.ticket = ap (λ (y : Posting). y.ticket) (same_Some x q two) in
    absurd (omega (arith, above, higher, same))
later last (x ∷ ps) are (suc i) (suc j) p q one two higher = let rest = later (Some x) ps are.2 i j p q one two higher in omega (arith, rest)

-- the next posting begins with what the one before has left
pub next-begins : (last : Option Posting) (ps : List Posting) → ArePostings last ps → (k : ℕ) (p q : Posting) → slice_get ps k ≡ Some p → slice_get ps (suc k) ≡ Some q → q.before ≡ p.after
next-begins last [] are k p q one two = absurd (cc)
next-begins last (x ∷ []) are k p q one two = absurd (cc)
next-begins last (x ∷ y ∷ ps) are zero p q one two =
    ap (λ (z : Posting). z.before) (sym (same_Some y q two)) ∙ are.2.1.1 ∙ ap (λ (z : Posting). z.after) (same_Some x p one)
next-begins last (x ∷ y ∷ ps) are (suc k) p q one two = next-begins (Some x) (y ∷ ps) are.2 k p q one two
