use Rattle.std.proofs.Common.{◌↔◌, IsTrue, false, ℕ, ◌+◌, ◌-◌, ◌<◌, ◌≤◌, List, ◌∷◌, length, take, drop, get_or, arith}
use Rattle.std.proofs.lemmas.List.{drop_more}
use Rattle.std.proofs.lemmas.List.Sums.{sum_by-take-le, sum_by-take-drop}
use Rattle.std.specs.FinMap as map
use Rattle.jb_handle.specs.Size.{IsWithinSize}
use Rattle.jb_handle.specs.declared.stopped.Stopped.{Stopped}
use Rattle.jb_cost.proofs.Cuts.{rises-le}
use Rattle.jb_core.specs.Exactly.{GoesOn}
use Rattle.jb_core.proofs.least.goes_on.Goals as goal

module _ {c : ℕ → ℕ → ℕ} {limit n a blocks : ℕ} (i : ℕ) (ends : List ℕ) (there : i < length ends) where
  first-on : GoesOn c limit n a blocks (drop i ends) → GoesOn c limit n a blocks (get_or ends i 0 ∷ drop (i + 1) ends)
  first-on on = rw (drop_more ends i 0 there) at on

  -- one bound further
  next-to : GoesOn c limit n a blocks (drop i ends) → GoesOn c limit n (get_or ends i 0) (blocks - c a (get_or ends i 0)) (drop (i + 1) ends)
  next-to whole = let on = first-on whole in record { rises = on.rises.1; fits = on.fits.1; sum = let sum = on.sum in omega arith }

  next-from : a < get_or ends i 0 → c a (get_or ends i 0) ≤ limit → c a (get_or ends i 0) ≤ blocks → GoesOn c limit n (get_or ends i 0) (blocks - c a (get_or ends i 0)) (drop (i + 1) ends)
      → GoesOn c limit n a blocks (drop i ends)
  next-from rises fits left on = rw (drop_more ends i 0 there) (record { rises = (rises, on.rises); fits = (fits, on.fits); sum = let sum = on.sum in omega arith })

  on-rises : GoesOn c limit n a blocks (drop i ends) → (a < get_or ends i 0) × (get_or ends i 0 ≤ n)
  on-rises whole = let on = first-on whole in (on.rises.0, rises-le n (get_or ends i 0) (drop (i + 1) ends) on.rises.1)

  on-fits : GoesOn c limit n a blocks (drop i ends) → (c a (get_or ends i 0) ≤ limit) × (c a (get_or ends i 0) ≤ blocks)
  on-fits whole = let on = first-on whole in (on.fits.0, let sum = on.sum in omega arith)

-- a piece of a list of handles weighs no more than the list
piece-size : (hs : List Stopped) (a n : ℕ) → IsWithinSize hs → IsWithinSize (take n (drop a hs))
piece-size hs a n size =
    let part = sum_by-take-le (λ (h : Stopped). map.len h.words + 1) (drop a hs) n in
    let rest = sum_by-take-drop (λ (h : Stopped). map.len h.words + 1) hs a in
    omega (arith, part, rest, size)

-- what is not so is refused
no : {P : Type 0} → (P → ⊥) → IsTrue false ↔ P
no never = (λ yes. absurd (let h : ⊥ = cc in h), λ p. absurd (never p))

pub returns-then-end-start : goal.returns-then-end-start
returns-then-end-start c = no (λ whole. omega (arith, (on-rises c.loop-end.end-index c.args.ends.now c.loop-end-test.true (c.loop-end.invariant.to whole)).0, c.if-end-start.true))

pub returns-then-end-handles : goal.returns-then-end-handles
returns-then-end-handles c = no (λ whole. omega (arith, (on-rises c.loop-end.end-index c.args.ends.now c.loop-end-test.true (c.loop-end.invariant.to whole)).1, c.if-end-handles.true))

pub group_cost-requires : goal.group_cost-requires
group_cost-requires c = record { size = piece-size c.args.handles.now c.loop-end.start _ c.requires.size }

pub returns-then-cost-from : goal.returns-then-cost-from
returns-then-cost-from c = no (λ whole.
    let fits = on-fits c.loop-end.end-index c.args.ends.now c.loop-end-test.true (c.loop-end.invariant.to whole) in
    omega (arith, fits.0, c.in_ok-cost.ensures.blocks, c.from.ensures, c.if-cost-from.true))

pub returns-then-cost-left : goal.returns-then-cost-left
returns-then-cost-left c = no (λ whole.
    let fits = on-fits c.loop-end.end-index c.args.ends.now c.loop-end-test.true (c.loop-end.invariant.to whole) in
    omega (arith, fits.1, c.in_ok-cost.ensures.blocks, c.if-cost-left.true))

pub loop-end-preserved : goal.loop-end-preserved
loop-end-preserved c = record {
  inside = c.if-end-handles.false;
  to = λ whole. rw c.in_ok-cost.ensures.blocks (next-to c.loop-end.end-index c.args.ends.now c.loop-end-test.true (c.loop-end.invariant.to whole));
  back = λ next.
      c.loop-end.invariant.back (next-from c.loop-end.end-index c.args.ends.now c.loop-end-test.true c.if-end-start.false
      (omega (arith, c.in_ok-cost.ensures.blocks, c.from.ensures, c.if-cost-from.false)) (omega (arith, c.in_ok-cost.ensures.blocks, c.if-cost-left.false)) (rw c.in_ok-cost.ensures.blocks at next));
}
