-- A search that goes over a span.
use Rattle.std.proofs.Common.{◌≡◌, ℕ, ◌+◌, ◌-◌, ◌^◌, ◌<◌, ◌≤◌, true, false, nat_lt, if◌then◌else◌, List, length, Option, Some, None, refl, arith, sym, ap, subst, ◌∙◌}
use Rattle.std.specs.Int.{div_ceil}
use Rattle.jb_cost.specs.declared.geometry.Geometry.{Geometry}
use Rattle.jb_cost.specs.declared.owned.Owned.{Owned}
use Rattle.jb_cost.specs.declared.stretch.PricedStart.{PricedStart}
use Rattle.jb_cost.specs.declared.group_start.GroupStart.{GroupStart}
use Rattle.jb_cost.specs.declared.span.Span.{Span}
use Rattle.jb_cost.specs.LastTouch.{owned_at, owned_from, copies_of, frees_of, owned_cost, IsIdle}
use Rattle.jb_cost.specs.Starts.{LeastPrice, BestStart, AreIdle, found_start, dearer_by, better_of}
use Rattle.jb_cost.specs.Spans.{CostsWithin, copies_until, IsSpan, IsBestOf, OwnTheSame}
use Rattle.jb_cost.specs.declared.group_size.GroupSize.{GroupSize}
use Rattle.jb_cost.specs.Cost.{blocks_of}
use Rattle.jb_cost.proofs.Ceilings.{ceil-mono}
use Rattle.jb_cost.proofs.BestStarts.{best-joined, best-stretch, best-moved, best-as}
use Rattle.jb_cost.proofs.StretchSearch.{owned-later, owned-same, owned-one, owned-dearer, idle-sums}

-- ---- spans: as a walk counts one, as a search goes over it, and as a handle in it changes

within-better : (most : ℕ) (best earlier : Option GroupStart) → CostsWithin most best → CostsWithin most earlier → CostsWithin most (better_of best earlier)
within-better most best None one other = one
within-better most None (Some s) one other = other
within-better most (Some b) (Some s) one other = elim (nat_lt (b.price + b.cost) (s.price + s.cost)) as (λ t. CostsWithin most (if t then Some b else Some s)) [ true ↦ one | false ↦ other ]

within-more : (low high : ℕ) (found : Option GroupStart) → low ≤ high → CostsWithin low found → CostsWithin high found
within-more low high found more within f is = omega (arith, more, within f is)

within-from : (most : ℕ) (least : Option PricedStart) → CostsWithin most (found_start least most)
within-from most None f is = cc
within-from most (Some s) f is = let same : Some (record { from = s.from; price = s.price; cost = most }) ≡ Some f = is in let cost : most ≡ f.cost = cc in omega (arith, cost)

-- what a walk over the stretches before `end` keeps
pub record Counted (os : List Owned) (end low : ℕ) (sum : Owned) (least : Option GroupStart) : Type 0 where
  pub copies_are : sum.copies + owned_from copies_of os end ≡ owned_from copies_of os low
  pub frees_are : sum.frees + owned_from frees_of os end ≡ owned_from frees_of os low
  pub within : low ≤ end
  pub idle : AreIdle os low (end - 8)
  pub small : CostsWithin sum.copies least

-- one stretch more
module _ {os : List Owned} {end low : ℕ} {sum : Owned} {best : Option GroupStart} (counted : Counted os end low sum best) (inside : (8 ≤ end) × (end ≤ length os)) (later : end - 8 < low)
    (now : Owned) (plus : record { copies : now.copies ≡ sum.copies + (owned_at os (low - 1)).copies; frees : now.frees ≡ sum.frees + (owned_at os (low - 1)).frees })
    (from : ℕ) (before : from ≤ low - 1) (idle : AreIdle os from (low - 1)) where
  pub counted-more : (least : Option PricedStart) → Counted os end from now (better_of best (found_start least now.copies))
  counted-more least =
      let one = owned-one os low (omega arith) (omega (arith, counted.within)) in
      let same = idle-sums os from (low - 1) before (omega (arith, counted.within)) idle in
      record {
        copies_are = omega (arith, plus, counted.copies_are, one.0, same.0);
        frees_are = omega (arith, plus, counted.frees_are, one.1, same.1);
        within = omega (arith, before, counted.within);
        idle = λ j above below. idle j above (omega arith);
        small = within-better now.copies best (found_start least now.copies) (within-more sum.copies now.copies best (omega (arith, plus)) counted.small) (within-from now.copies least);
      }

  pub counted-best : owned_from copies_of os 0 ≤ 2 ^ 62 → (ps : List (Option ℕ)) (least : Option PricedStart) → LeastPrice ps from (low - 1 + 1) least → BestStart (copies_until os end) (2 ^ 62) ps low end best
      → BestStart (copies_until os end) (2 ^ 62) ps from end (better_of best (found_start least now.copies))
  counted-best few ps least lowest tried =
      let short : low - 1 ≤ length os = omega (arith, counted.within) in
      let now_are = (counted-more least).copies_are in
      best-stretch (copies_until os end) (2 ^ 62) ps from low now.copies end (omega (arith, before)) counted.within (omega (arith, few, now_are, owned-later copies_of os 0 from (omega arith)))
      (λ i above below.
      let until : AreIdle os i (low - 1) = λ j late early. idle j (omega arith) early in
      omega (arith, (idle-sums os i (low - 1) (omega arith) short until).0, (idle-sums os from (low - 1) before short idle).0, now_are))
      best least lowest tried

-- a span holds as far as its handles own what they did
module _ (os now : List Owned) (end : ℕ) (s : Span) (is : IsSpan os end s) (long : length os ≤ length now) (same : OwnTheSame os now s.from end) where
  same-sums : (count : Owned → ℕ) (i : ℕ) → s.from ≤ i → i ≤ end → owned_from count now i + owned_from count os end ≡ owned_from count os i + owned_from count now end
  same-sums count i above below = owned-same count os now (end - i) i end (omega (arith, below)) is.within (omega (arith, is.within, long)) (λ j late early. same j (omega (arith, above, late)) early)

  pub span-as : IsSpan now end s
  span-as = record {
    back = is.back;
    within = omega (arith, is.within, long);
    idle = λ j above below. subst IsIdle (sym (same j above (omega (arith, below, is.back)))) (is.idle j above below);
    copies = omega (arith, is.copies, same-sums copies_of s.from (omega arith) (omega (arith, is.back)));
    frees = omega (arith, is.frees, same-sums frees_of s.from (omega arith) (omega (arith, is.back)));
    small = is.small;
  }

  pub span-best-as : (ps : List (Option ℕ)) → IsBestOf ps os end s → IsBestOf ps now end s
  span-best-as ps best = best-as (copies_until os end) (copies_until now end) (2 ^ 62) ps ps s.from end
      (λ i above below. let alike = same-sums copies_of i above (omega arith) in omega (arith, owned-later copies_of os i end (omega arith), owned-later copies_of now i end (omega arith)))
      (λ i below. refl) s.least best

-- ---- A search that goes over a span

module _ {os : List Owned} {low : ℕ} {s : Span} (is : IsSpan os low s) (walk : GroupSize)
    (so_far : (walk.copies.entries ≡ owned_from copies_of os low) × (walk.frees.entries ≡ owned_from frees_of os low)) where
  pub span-room : owned_from copies_of os 0 + owned_from frees_of os 0 ≤ 2 ^ 62 → (walk.copies.entries + s.copies) + (walk.frees.entries + s.frees) ≤ 2 ^ 62
  span-room few = omega (arith, few, so_far, is.copies, is.frees, owned-later copies_of os 0 s.from (omega arith), owned-later frees_of os 0 s.from (omega arith))

  module _ (more : Owned) (owned : record { copies : more.copies ≡ s.copies; frees : more.frees ≡ s.frees }) (sum : GroupSize)
      (plus : record { geometry : sum.geometry ≡ walk.geometry; copies : sum.copies.entries ≡ walk.copies.entries + more.copies; frees : sum.frees.entries ≡ walk.frees.entries + more.frees }) where
    -- the sums with the span are those of the handles from its first one on
    pub leap-sums : (sum.copies.entries ≡ owned_from copies_of os s.from) × (sum.frees.entries ≡ owned_from frees_of os s.from)
    leap-sums = (omega (arith, plus.copies, owned.copies, so_far, is.copies), omega (arith, plus.frees, owned.frees, so_far, is.frees))

    -- as many descriptors and revoke blocks
    module _ (names : (sum.copies.blocks ≡ walk.copies.blocks) × (sum.frees.blocks ≡ walk.frees.blocks)) where
      descriptors : div_ceil (owned_from copies_of os low) walk.geometry.t ≡ div_ceil (owned_from copies_of os s.from) walk.geometry.t
      descriptors =
          sym (walk.copies.enough ∙ (λ i. div_ceil (so_far.0 i) (walk.tags i))) ∙ sym names.0
          ∙ sum.copies.enough ∙ (λ i. div_ceil (leap-sums.0 i) ((sum.tags ∙ ap (λ (g : Geometry). g.t) plus.geometry) i))

      revokes : div_ceil (owned_from frees_of os low) walk.geometry.r ≡ div_ceil (owned_from frees_of os s.from) walk.geometry.r
      revokes =
          sym (walk.frees.enough ∙ (λ i. div_ceil (so_far.1 i) (walk.entries i))) ∙ sym names.1
          ∙ sum.frees.enough ∙ (λ i. div_ceil (leap-sums.1 i) ((sum.entries ∙ ap (λ (g : Geometry). g.r) plus.geometry) i))

      -- so each of its starts costs its copies more
      span-cost : (i : ℕ) → s.from ≤ i → i < low → owned_cost walk.geometry os i ≡ copies_until os low i + owned_cost walk.geometry os low
      span-cost i above below =
          let g = walk.geometry in
          let more = owned-later copies_of os i low (omega arith) in
          omega (
            arith,
            descriptors,
            revokes,
            more,
            ceil-mono _ _ g.t g.tags more,
            ceil-mono _ _ g.t g.tags (owned-later copies_of os s.from i above),
            ceil-mono _ _ g.r g.entries (owned-later frees_of os i low (omega arith)),
            ceil-mono _ _ g.r g.entries (owned-later frees_of os s.from i above),
          )

      -- and its best start is the best of them, where they are all within the limit; a search may have looked at the last ones of them
      pub leap-best : (limit met end : ℕ) → s.from ≤ met → met ≤ low → blocks_of sum.geometry sum.copies.entries sum.frees.entries ≤ limit → owned_from copies_of os 0 ≤ 2 ^ 62 → low ≤ end
          → (ps : List (Option ℕ)) (best earlier : Option GroupStart) → earlier ≡ dearer_by (blocks_of walk.geometry walk.copies.entries walk.frees.entries) s.least → IsBestOf ps os low s
          → BestStart (owned_cost walk.geometry os) limit ps met end best → BestStart (owned_cost walk.geometry os) limit ps s.from end (better_of best earlier)
      leap-best limit met end back overlap fits few inside ps best earlier is-dearer of tried =
          let costs : blocks_of walk.geometry walk.copies.entries walk.frees.entries ≡ owned_cost walk.geometry os low = λ i. blocks_of walk.geometry (so_far.0 i) (so_far.1 i) in
          let whole : blocks_of sum.geometry sum.copies.entries sum.frees.entries ≡ owned_cost walk.geometry os s.from = λ i. blocks_of (plus.geometry i) (leap-sums.0 i) (leap-sums.1 i) in
          rw is-dearer
          (best-joined (owned_cost walk.geometry os) limit ps s.from met low end back overlap inside best _
          (best-moved (copies_until os low) (owned_cost walk.geometry os) (2 ^ 62) limit ps ps s.from s.from low (blocks_of walk.geometry walk.copies.entries walk.frees.entries) (omega arith)
          (λ i above below. omega (arith, span-cost i above below, costs))
          (λ i below. refl)
          (λ i above below fit. omega (arith, fits, whole, owned-dearer walk.geometry os s.from i above))
          (λ i above below fit. (above, omega (arith, few, owned-later copies_of os 0 i (omega arith))))
          s.least of)
          tried)
