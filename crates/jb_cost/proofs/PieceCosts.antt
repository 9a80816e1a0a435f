-- The pieces of a list of handles: what they weigh, and what they cost.
use Rattle.std.proofs.Common.{take-add, length-take-le, length-drop, zero, suc, ◌≡◌, ℕ, ◌+◌, ◌-◌, ◌*◌, ◌<◌, ◌≤◌, List, [], ◌∷◌, length, take, drop, get_or, slice_range, refl, sym, ap, ◌∙◌, arith, add-one, drop-cons}
use Rattle.std.specs.FinMap as map
use Rattle.std.proofs.lemmas.List.Sums.{sum_by-append, sum_by-take-le}
use Rattle.jb_handle.specs.declared.stopped.Stopped.{Stopped}
use Rattle.jb_handle.specs.Size.{weight}
use Rattle.jb_cost.specs.declared.geometry.Geometry.{Geometry}
use Rattle.jb_cost.specs.Cost.{cost}
use Rattle.jb_cost.specs.Cut.{piece_cost}
use Rattle.jb_cost.proofs.Costs.{cost-left, cost-few}

-- a piece that begins one handle earlier has this handle in front
pub piece-left : (hs : List Stopped) (d : Stopped) (i j : ℕ) → i < j → i < length hs → slice_range hs i j ≡ get_or hs i d ∷ slice_range hs (i + 1) j
piece-left hs d i j before within =
    let e : j - i ≡ suc (j - (i + 1)) = omega arith in
    rw (drop-cons hs i d, e, add-one) refl

-- the same, from the bound after the handle
pub piece-before : (hs : List Stopped) (h : Stopped) (k j : ℕ) → 0 < k → k ≤ j → j ≤ length hs → h ≡ get_or hs (k - 1) h → slice_range hs (k - 1) j ≡ h ∷ slice_range hs k j
piece-before hs h k j positive before within is =
    let e : k - 1 + 1 ≡ k = omega arith in
    let left = piece-left hs h (k - 1) j (omega arith) (omega arith) in
    left ∙ ap (λ x. x ∷ slice_range hs (k - 1 + 1) j) (sym is) ∙ ap (λ n. h ∷ slice_range hs n j) e

-- an end piece is empty
pub piece-none : (hs : List Stopped) (j : ℕ) → slice_range hs j j ≡ []
piece-none hs j = let e : j - j ≡ 0 = omega arith in rw e refl

-- earlier starts cost no less
pub piece-dearer : (g : Geometry) (hs : List Stopped) (d : Stopped) (n i k j : ℕ) → j ≤ length hs → k ≡ i + n → k < j → piece_cost g hs k j ≤ piece_cost g hs i j
piece-dearer g hs d zero i k j within is before = let e : k ≡ i = omega arith in rw e (omega arith)
piece-dearer g hs d (suc n) i k j within is before =
    omega (
      arith,
      piece-dearer g hs d n (i + 1) k j within (omega arith) before,
      cost-left g (get_or hs i d) (slice_range hs (i + 1) j),
      ap (cost g) (piece-left hs d i j (omega arith) (omega arith)),
    )

-- what the first j handles weigh is what the first i do and what the piece between does
weight-piece : (hs : List Stopped) (i j : ℕ) → i ≤ j → weight (take j hs) ≡ weight (take i hs) + weight (slice_range hs i j)
weight-piece hs i j within =
    let whole : i + (j - i) ≡ j = omega arith in
    ap (λ k. weight (take k hs)) (sym whole) ∙ ap weight (take-add i (j - i) hs) ∙ sum_by-append (λ h. map.len h.words + 1) (take i hs) (slice_range hs i j)

-- the first handles weigh no more than all
pub weight-take : (hs : List Stopped) (j : ℕ) → weight (take j hs) ≤ weight hs
weight-take hs j = sum_by-take-le (λ h. map.len h.words + 1) hs j

-- a piece weighs no more than all
pub weight-part : (hs : List Stopped) (i j : ℕ) → i ≤ j → weight (slice_range hs i j) ≤ weight hs
weight-part hs i j within = omega (arith, weight-piece hs i j within, weight-take hs j)

-- a piece costs at most twice what it weighs
pub piece-within : (g : Geometry) (hs : List Stopped) (i j : ℕ) → i < j → j ≤ length hs → piece_cost g hs i j + 2 * weight (take i hs) ≤ 2 * weight (take j hs)
piece-within g hs i j before within =
    let long : length (slice_range hs i j) ≡ j - i = length-take-le (j - i) (drop i hs) (simp length-drop (omega arith)) in
    omega (arith, weight-piece hs i j (omega arith), cost-few g (slice_range hs i j))
