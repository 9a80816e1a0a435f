use Rattle.std.proofs.Common.{◌≡◌, ◌+◌, ◌-◌, ◌<◌, ℕ, zero, suc, List, [], ◌∷◌, length, get_or, refl, ap, ◌∙◌, subst, drop, slice_index_or, arith, get_or-drop}
use Rattle.jb_cost.specs.Cut.{RisesTo}
use Rattle.jb_core.specs.SplitEnds.{IsParted}
use Rattle.jb_cost.proofs.Cuts.{rises-le}
use Rattle.jb_core.proofs.sums.end_after.Goals as goal

-- a rising list, divided after one of its ends
rises-part : (n e a : ℕ) (es : List ℕ) → RisesTo e a es → n < length es → IsParted e a (suc n) es (get_or es n 0)
rises-part n e a [] is there = absurd (omega (arith, there))
rises-part zero e a (b ∷ bs) is there = record { first = (is.0, refl); rest = is.1; low = omega (arith, is.0); high = rises-le e b bs is.1 }
rises-part (suc n) e a (b ∷ bs) is there = let p = rises-part n e b bs is.1 (omega arith) in record { first = (is.0, p.first); rest = p.rest; low = omega (arith, is.0, p.low); high = p.high }

pub returns-then-n-eq0 : goal.returns-then-n-eq0
returns-then-n-eq0 c last rises =
    let none : c.args.n ≡ 0 = c.if-n-eq0.true in
    rw none (record { first = refl; rest = rises; low = omega arith; high = rises-le last c.args.start (drop c.args.from c.args.ends.now) rises })

pub returns-else-n-eq0 : goal.returns-else-n-eq0
returns-else-n-eq0 c last rises =
    let es = drop c.args.from c.args.ends.now in
    let some : suc (c.args.n - 1) ≡ c.args.n = omega (arith, c.if-n-eq0.false) in
    let place : c.args.from + (c.args.n - 1) ≡ c.args.from + c.args.n - 1 = omega (arith, some) in
    let same = get_or-drop c.args.from c.args.ends.now (c.args.n - 1) 0 ∙ ap (λ i. slice_index_or c.args.ends.now i 0) place in
    subst (IsParted last c.args.start c.args.n es) same
    (subst (λ n. IsParted last c.args.start n es (slice_index_or es (c.args.n - 1) 0)) some (rises-part (c.args.n - 1) last c.args.start es rises (omega (arith, c.if-n-eq0.false, c.requires))))
