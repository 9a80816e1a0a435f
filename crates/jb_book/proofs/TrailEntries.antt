-- Entries one after the other, and what is left of them once some were taken from the front.
use Rattle.std.proofs.Common.{◌-◌, true, false, nat_le, cond, Some, slice_get, ◌≡◌, ℕ, zero, suc, ◌+◌, ◌<◌, ◌≤◌, ◌==◌, ◌&&◌, List, [], ◌∷◌, ◌++◌, length, drop, get_or, subst, sym, ap, refl, inl, inr, ◌∙◌, arith, drop-cons, Decides}
use Rattle.std.proofs.lemmas.Bool.Decides.{nat_tests}
use Rattle.std.specs.List.Sorted.{IsNonDecreasingBy}
use Rattle.jb_deck.specs.declared.done.Entry.{Entry}
use Rattle.jb_deck.specs.Done.{Follow, least_after, past_after, start_of}
use Rattle.jb_book.specs.Account.{Account, IsAccountSound, IsSettledBy, last_start, shortened, trail_from}

pub follow-append : (first least mid past : ℕ) (es fs : List Entry) → Follow first least mid es → Follow mid (least_after least es) past fs → Follow first least past (es ++ fs)
follow-append first least mid past [] fs one two = subst (λ f. Follow f least past fs) (sym one) two
follow-append first least mid past (e ∷ es) fs one two = (one.0, one.1, one.2, follow-append e.past (e.number + 1) mid past es fs one.3 two)

-- further entries of a trail go on where it ends; where it is empty, it ends at 0
pub follow-on : (mid past : ℕ) (es fs : List Entry) → Follow (start_of es) 0 mid es → Follow mid (least_after 0 es) past fs → Follow (start_of (es ++ fs)) 0 past (es ++ fs)
follow-on mid past [] [] one two = one ∙ two
follow-on mid past [] (f ∷ fs) one two = subst (λ n. Follow n 0 past (f ∷ fs)) (sym two.0) two
follow-on mid past (e ∷ es) fs one two = follow-append e.first 0 mid past (e ∷ es) fs one two

-- the tickets go up, at least one for each entry
pub follow-length : (first least past : ℕ) (es : List Entry) → Follow first least past es → first + length es ≤ past
follow-length first least past [] is = omega (arith, is)
follow-length first least past (e ∷ es) is = let rest = follow-length e.past (e.number + 1) past es is.3 in omega arith

pub follow-past : (first least past : ℕ) (es : List Entry) → Follow first least past es → past_after first es ≡ past
follow-past first least past [] is = is
follow-past first least past (e ∷ es) is = follow-past e.past (e.number + 1) past es is.3

pub least-append : (least : ℕ) (es fs : List Entry) → least_after least (es ++ fs) ≡ least_after (least_after least es) fs
least-append least [] fs = λ i. least_after least fs
least-append least (e ∷ es) fs = least-append (e.number + 1) es fs

-- ---- the entry at a place

module _ (es : List Entry) (i : ℕ) (e : Entry) (there : i < length es) (is : e ≡ get_or es i e) where
  rest-is : drop i es ≡ e ∷ drop (i + 1) es
  rest-is = drop-cons es i e there ∙ ap (λ x. x ∷ drop (suc i) es) (sym is) ∙ ap (λ k. e ∷ drop k es) (let same : suc i ≡ i + 1 = omega arith in same)

  pub at-entry : (first least past : ℕ) → Follow first least past (drop i es) → (e.first ≡ first) × (first < e.past) × (least ≤ e.number) × Follow e.past (e.number + 1) past (drop (i + 1) es)
  at-entry first least past on = subst (Follow first least past) rest-is on

  pub from-entry : (first least past : ℕ) → e.first ≡ first → first < e.past → least ≤ e.number → Follow e.past (e.number + 1) past (drop (i + 1) es) → Follow first least past (drop i es)
  from-entry first least past begins more low on = subst (Follow first least past) (sym rest-is) (begins, more, low, on)

  pub least-entry : (least : ℕ) → least_after least (drop i es) ≡ least_after (e.number + 1) (drop (i + 1) es)
  least-entry least = ap (least_after least) rest-is

-- ---- the group of a ticket

-- a ticket of the first entry or of a later one ends no later than its own entry does
later-past : (first least past : ℕ) (es : List Entry) (j : ℕ) (d : Entry) → Follow first least past es → j < length es → first ≤ (get_or es j d).past
later-past first least past [] j d is there = absurd (omega (arith, there))
later-past first least past (e ∷ es) zero d is there = omega arith
later-past first least past (e ∷ es) (suc j) d is there =
    let rest = later-past e.past (e.number + 1) past es j d is.3 (omega (arith, there)) in
    omega (arith, rest)

-- the ends of entries that tile the tickets go up
pub pasts-rise : (first least past : ℕ) (es : List Entry) → Follow first least past es → IsNonDecreasingBy (λ (e : Entry). e.past) es
pasts-rise first least past [] is i j d order there = absurd (omega (arith, there))
pasts-rise first least past (e ∷ es) is zero zero d order there = omega arith
pasts-rise first least past (e ∷ es) is zero (suc j) d order there = later-past e.past (e.number + 1) past es j d is.3 (omega (arith, there))
pasts-rise first least past (e ∷ es) is (suc i) zero d order there = absurd (omega (arith, order))
pasts-rise first least past (e ∷ es) is (suc i) (suc j) d order there = pasts-rise e.past (e.number + 1) past es is.3 i j d (omega (arith, order)) (omega (arith, there))

-- the first entry that ends after a ticket has it
pub settled-at : (first least past ticket : ℕ) (es : List Entry) (i : ℕ) (d : Entry)
    → Follow first least past es → first ≤ ticket → i < length es
    → ((k : ℕ) → k < i → (get_or es k d).past ≤ ticket) → ticket < (get_or es i d).past
    → IsSettledBy es ticket (get_or es i d).number × (ticket < past)
settled-at first least past ticket [] i d is low there before here = absurd (omega (arith, there))
settled-at first least past ticket (e ∷ es) zero d is low there before here =
    let rest = follow-length e.past (e.number + 1) past es is.3 in
    (inl (omega (arith, low), here, refl), omega (arith, rest, here))
settled-at first least past ticket (e ∷ es) (suc i) d is low there before here =
    let later = settled-at e.past (e.number + 1) past ticket es i d is.3 (before 0 (omega arith)) (omega (arith, there)) (λ k h. before (suc k) (omega (arith, h))) here in
    (inr later.0, later.1)

-- where no entry ends after a ticket, it is not settled
pub none-at : (first least past ticket : ℕ) (es : List Entry) (d : Entry) → Follow first least past es → first ≤ ticket → ((k : ℕ) → k < length es → (get_or es k d).past ≤ ticket) → past ≤ ticket
none-at first least past ticket [] d is low all = omega (arith, is, low)
none-at first least past ticket (e ∷ es) d is low all = none-at e.past (e.number + 1) past ticket es d is.3 (all 0 (omega arith)) (λ k h. all (suc k) (omega (arith, h)))

-- ---- what is left

-- the last one stays
pub front-last : (past : ℕ) (es : List Entry) (i : ℕ) → length es ≤ suc i → trail_from past (drop i es) ≡ drop i es
front-last past [] zero over = refl
front-last past [] (suc i) over = refl
front-last past (e ∷ []) zero over = refl
front-last past (e ∷ f ∷ es) zero over = absurd (omega (arith, over))
front-last past (e ∷ es) (suc i) over = front-last past es i (omega (arith, over))

-- ---- what is left goes on as before

pub from-follow : (past settled : ℕ) (es : List Entry) → Follow (start_of es) 0 settled es → Follow (start_of (trail_from past es)) 0 settled (trail_from past es)
from-follow past settled [] is = is
from-follow past settled (e ∷ []) is = is
from-follow past settled (e ∷ f ∷ es) is =
    let (begins, more, low, rest) = is.3 in
    elim (nat_le e.past past) as (λ b. Follow (start_of (cond b (trail_from past (f ∷ es)) (e ∷ f ∷ es))) 0 settled (cond b (trail_from past (f ∷ es)) (e ∷ f ∷ es))) [
      | true ↦ from-follow past settled (f ∷ es) (refl, omega (arith, begins, more), omega arith, rest)
      | false ↦ is
    ]

-- the number of a group after them is as before
pub from-least : (past least : ℕ) (es : List Entry) → least_after least (trail_from past es) ≡ least_after least es
from-least past least [] = refl
from-least past least (e ∷ []) = refl
from-least past least (e ∷ f ∷ es) = let rest = from-least past least (f ∷ es) in grind (arith, rest)

pub shortened-sound : (past : ℕ) (a : Account) → IsAccountSound a → IsAccountSound (shortened past a)
shortened-sound past a sound = assumption (from-follow past a.shadow.settled a.trail sound.trail)

-- ---- the first and the last entry

-- what tiles the tickets begins no later than it ends
pub start-low : (settled : ℕ) (es : List Entry) → Follow (start_of es) 0 settled es → start_of es ≤ settled
start-low settled es is = let up = follow-length (start_of es) 0 settled es is in omega (arith, up)

pub last-start : (es : List Entry) (e : Entry) → Some e ≡ slice_get es (length es - 1) → e.first ≡ last_start es
last-start [] e is = cc
last-start (x ∷ []) e is = let same : e ≡ x = cc in ap (λ (y : Entry). y.first) same
last-start (x ∷ y ∷ es) e is = let next : suc (suc (length es)) - 1 ≡ suc (suc (length es) - 1) = omega arith in last-start (y ∷ es) e (is ∙ ap (slice_get (x ∷ y ∷ es)) next)

-- ---- two entries

pub entry-Decides : (a b : Entry) → Decides ((a.first == b.first) && ((a.past == b.past) && ((a.number == b.number) && (a.blocks == b.blocks)))) (a ≡ b)
entry-Decides a b = (
  λ test.
      let first : a.first ≡ b.first = grind (arith, nat_tests) in
      let past : a.past ≡ b.past = grind (arith, nat_tests) in
      let number : a.number ≡ b.number = grind (arith, nat_tests) in
      let blocks : a.blocks ≡ b.blocks = grind (arith, nat_tests) in
      λ i. record { first = first i; past = past i; number = number i; blocks = blocks i },
  λ is. grind (arith, nat_tests),
)
