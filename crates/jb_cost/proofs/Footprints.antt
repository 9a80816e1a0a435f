-- The footprint of handles, and of those with one more in front, as it goes leftwards over the handles of a piece.
use Rattle.std.proofs.Common.{◌≡◌, ℕ, ◌+◌, ◌^◌, ◌≤◌, ◌||◌, List, [], ◌∷◌, is_some, sym, ap, ◌∙◌, arith, nat_cmp, ◌-◌, ◌<◌, length, get_or, slice_range}
use Rattle.std.specs.Cmp.{nat_cmp_total}
use Rattle.std.specs.BTreeSet as tree
use Rattle.std.specs.BTreeSet.{BTreeSet}
use Rattle.std.specs.FinMap as map
use Rattle.std.specs.FinSet as set
use Rattle.std.proofs.Math.Bool.{or_comm}
use Rattle.std.proofs.lemmas.List.Sums.{sum_by-cons}
use Rattle.jb_handle.specs.declared.stopped.Stopped.{Stopped}
use Rattle.jb_handle.specs.Size.{weight, IsWithinSize}
use Rattle.jb_handle.specs.Word.{is_copy, is_free}
use Rattle.jb_handle.specs.Words.{word, touched, copies, frees}
use Rattle.jb_handle.proofs.TouchedHomes.{contains-touched}
use Rattle.jb_handle.proofs.Options.{or-some}
use Rattle.jb_cost.specs.declared.geometry.Geometry.{Geometry}
use Rattle.jb_cost.specs.Cost.{blocks_of, cost}
use Rattle.jb_cost.specs.Footprint.{Covered, covered_by}
use Rattle.jb_cost.specs.NewHomes.{new_homes}
use Rattle.jb_cost.proofs.MeetHomes.{set-contains}
use Rattle.jb_cost.proofs.HandleInFront.{len-copies, len-frees, few, no-copies, no-frees}
use Rattle.jb_cost.specs.Cut.{piece_cost}
use Rattle.jb_cost.proofs.PieceCosts.{piece-before, weight-part}

-- no handle touches a home
pub covers-none : (g : Geometry) (homes : BTreeSet ℕ) → homes.keys ≡ [] → record { geometry = g; homes = set.from_list homes.keys; copies = 0; frees = 0 } ≡ covered_by g []
unfolding covered_by
covers-none g homes none = λ i. record { geometry = g; homes = set.from_list (none i); copies = sym no-copies i; frees = sym no-frees i }

-- a footprint of handles, its parts named
module _ (g : Geometry) (hs : List Stopped) (footprint : Covered) (is : footprint ≡ covered_by g hs) where
  parts : record { geometry : footprint.geometry ≡ g; homes : footprint.homes ≡ touched hs; copies : footprint.copies ≡ set.len (copies hs); frees : footprint.frees ≡ set.len (frees hs) }
  unfolding covered_by
  parts = record { geometry = ap (λ c. c.geometry) is; homes = ap (λ c. c.homes) is; copies = ap (λ c. c.copies) is; frees = ap (λ c. c.frees) is }

  -- it has room for a handle, where all of them are within the size
  pub room-left : (h : Stopped) → weight (h ∷ hs) ≤ 2 ^ 62 → footprint.copies + footprint.frees + map.len h.words ≤ 2 ^ 62
  room-left h size = omega (arith, size, few hs, parts.copies, parts.frees, sum_by-cons (λ x. map.len x.words + 1) h hs)

  -- a handle is put in front
  module _ (h : Stopped) (old new : BTreeSet ℕ) (same : set.from_list old.keys ≡ footprint.homes)
      (put : (q : ℕ) → tree.contains nat_cmp new q ≡ (tree.contains nat_cmp old q || map.contains_key h.words q))
      (copied freed : ℕ) (copied-is : copied ≡ new_homes is_copy (set.from_list old.keys) (map.entries h.words)) (freed-is : freed ≡ new_homes is_free (set.from_list old.keys) (map.entries h.words)) where
    homes-left : set.from_list new.keys ≡ touched (h ∷ hs)
    homes-left = set.same_set nat_cmp_total set.nat_cmp-IsAntisymmetric _ _ (λ q.
        set-contains new q
        ∙ put q
        ∙ ap (λ b. b || map.contains_key h.words q) (sym (set-contains old q) ∙ ap (λ s. set.contains s q) (same ∙ parts.homes) ∙ contains-touched hs q)
        ∙ or_comm (is_some (word hs q)) (is_some (map.get h.words q)) ∙ sym (or-some (word hs q) (map.get h.words q))
        ∙ sym (contains-touched (h ∷ hs) q))

    copies-left : footprint.copies + copied ≡ set.len (copies (h ∷ hs))
    copies-left = (λ i. parts.copies i + (copied-is ∙ ap (λ s. new_homes is_copy s (map.entries h.words)) (same ∙ parts.homes)) i) ∙ sym (len-copies h hs)

    frees-left : footprint.frees + freed ≡ set.len (frees (h ∷ hs))
    frees-left = (λ i. parts.frees i + (freed-is ∙ ap (λ s. new_homes is_free s (map.entries h.words)) (same ∙ parts.homes)) i) ∙ sym (len-frees h hs)

    -- it covers this handle too, and its blocks are their cost
    pub added-left : (record { geometry = footprint.geometry; homes = set.from_list new.keys; copies = footprint.copies + copied; frees = footprint.frees + freed } ≡ covered_by g (h ∷ hs))
        × (blocks_of footprint.geometry (footprint.copies + copied) (footprint.frees + freed) ≡ cost g (h ∷ hs))
    unfolding covered_by
    added-left = (λ i. record { geometry = parts.geometry i; homes = homes-left i; copies = copies-left i; frees = frees-left i }, λ i. blocks_of (parts.geometry i) (copies-left i) (frees-left i))

-- ---- the handles of a piece

module _ (g : Geometry) (hs : List Stopped) (h : Stopped) (k j : ℕ) (positive : 0 < k) (before : k ≤ j) (within : j ≤ length hs) (is : h ≡ get_or hs (k - 1) h) where
  -- the footprint has room for the words of the handle before it
  pub walk-room : (footprint : Covered) → IsWithinSize hs → footprint ≡ covered_by g (slice_range hs k j) → footprint.copies + footprint.frees + map.len h.words ≤ 2 ^ 62
  walk-room footprint small covers =
      let whole = ap weight (piece-before hs h k j positive before within is) in
      room-left g (slice_range hs k j) footprint covers h (omega (arith, small, whole, weight-part hs (k - 1) j (omega arith)))

  -- with this handle it is the footprint of the piece that begins there, and what it answers is the piece's cost
  pub stepped-left : (footprint : Covered) (blocks : ℕ) → (footprint ≡ covered_by g (h ∷ slice_range hs k j)) × (blocks ≡ cost g (h ∷ slice_range hs k j)) → (footprint ≡ covered_by g (slice_range hs (k - 1) j)) × (blocks ≡ piece_cost g hs (k - 1) j)
  stepped-left footprint blocks added =
      let front = sym (piece-before hs h k j positive before within is) in
      (added.0 ∙ ap (covered_by g) front, added.1 ∙ ap (cost g) front)
