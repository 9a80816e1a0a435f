-- Which place a block of the image is, and what a call for one changes.
use Rattle.std.proofs.Common.{◌≡◌, ◌≢◌, ◌<◌, ◌≤◌, ◌-◌, ℕ, true, List, [], ◌∷◌, length, set, Option, Some, None, refl, sym, ◌∙◌, ap, subst, inl, inr, ⊎_elim, arith, length-set, get_or-set_same, get_or-set_other}
use Rattle.std.proofs.lemmas.Bool.{cases_lt}
use Rattle.std.proofs.lemmas.Bool.Decides.{nat_tests}
use Rattle.std.proofs.lemmas.List.{ext_get_or, get_or_past}
use Rattle.std.proofs.lemmas.List.Elements.{All-head, All-tail}
use Rattle.std.proofs.lemmas.Option.{none-some}
use Rattle.jb_disk.specs.Image.{Image, block, Torn}
use Rattle.jb_disk.specs.Time.{Goes}
use Rattle.jb_disk.specs.declared.disk.Disk.{Ghosts}
use Rattle.jb_map.specs.Blocks.{extent_count}
use Rattle.jb_image.specs.Disks.{at_block, spread_count, whole_disk}
use Rattle.jb_image.specs.Lists.{AreDisjoint, holds_in, list_of, place_within, times}
use Rattle.jb_map.specs.Twice.{AreForward}
use Rattle.jb_image.specs.ExtentImage.{AreApart, at_block-is, block_given, block-spread, length-spread, spread, within, WithinLeaves, WithinLeft}
use Rattle.jb_image.specs.declared.extents_disk.ExtentsDisk.{ExtentsDisk}
use Rattle.jb_map.specs.declared.extent.Extent.{Extent}
use Rattle.jb_image.specs.declared.extents.Extents.{Extents}

-- ---- no two places are one block

-- the blocks of the journal stand in the extents
place-held : (es : List Extent) → AreForward es → (i b : ℕ) → place_within es i ≡ Some b → holds_in es b ≡ true
place-held [] forward i b is = absurd (none-some b is)
place-held (e ∷ es) forward i b is =
    grind (arith, nat_tests, All-head (λ e. e.first ≤ e.last) e es forward, place-held es (All-tail (λ e. e.first ≤ e.last) e es forward) (i - extent_count e) b)

-- each in one of them at least
place-times : (es : List Extent) → AreForward es → (i b : ℕ) → place_within es i ≡ Some b → 1 ≤ times es b
place-times [] forward i b is = absurd (none-some b is)
place-times (e ∷ es) forward i b is =
    grind (arith, nat_tests, All-head (λ e. e.first ≤ e.last) e es forward, place-times es (All-tail (λ e. e.first ≤ e.last) e es forward) (i - extent_count e) b)

-- those of some of the extents are in no two of them
tail-disjoint : (e : Extent) (es : List Extent) → AreDisjoint (e ∷ es) → AreDisjoint es
tail-disjoint e es apart = λ b. grind (arith, apart b)

-- and each in one of its own
place-apart : (es : List Extent) → AreForward es → AreDisjoint es → (i j b : ℕ) → place_within es i ≡ Some b → place_within es j ≡ Some b → i ≡ j
place-apart [] forward apart i j b one other = absurd (none-some b one)
place-apart (e ∷ es) forward apart i j b one other =
    let n = extent_count e in
    let head = All-head (λ e. e.first ≤ e.last) e es forward in
    let tail = All-tail (λ e. e.first ≤ e.last) e es forward in
    grind (arith, nat_tests, head, apart b, place-times es tail (i - n) b, place-times es tail (j - n) b, place-apart es tail (tail-disjoint e es apart) (i - n) (j - n) b)

-- so no two places are one block of the image
pub at_block-apart : (extents : Extents) (journal blocks p q b : ℕ) → AreApart (list_of extents) → at_block extents journal blocks p ≡ Some b → at_block extents journal blocks q ≡ Some b → p ≡ q
at_block-apart extents journal blocks p q b apart one other =
    let es = list_of extents in
    let at_p = at_block-is extents journal blocks p b one in
    let at_q = at_block-is extents journal blocks q b other in
    grind (arith, at_p.either, at_q.either, place-apart es apart.forward apart.unshared p q b, place-held es apart.forward p b, place-held es apart.forward q b)

-- a place that was found, by the number of the image's blocks
pub found-at : (extents : Extents) (journal n m place b : ℕ) (o : Option ℕ) → n ≡ m → o ≡ at_block extents journal n place → o ≡ Some b → at_block extents journal m place ≡ Some b
found-at extents journal n m place b o count value is =
    ap (λ k. at_block extents journal k place) (sym count) ∙ sym value ∙ is

-- ---- what a call changes

module _ (extents : Extents) (journal size blocks place b : ℕ) (apart : AreApart (list_of extents)) (inside : place < spread_count journal blocks) (is : at_block extents journal blocks place ≡ Some b) where
  abbrev given : Image → Image
  given = spread extents journal size blocks

  -- the block is at its place
  pub given-here : (x : Image) → block (given x) place ≡ block x b
  given-here x = block-spread extents journal size blocks x place inside ∙ ap (block_given size x) is

  given-same : (x x' : Image) → ((q : ℕ) → q ≢ b → block x' q ≡ block x q) → (at : Option ℕ) → ((q : ℕ) → at ≡ Some q → q ≢ b) → block_given size x' at ≡ block_given size x at
  given-same x x' same (Some q) other = same q (other q refl)
  given-same x x' same None other = refl

  -- and at no other
  given-elsewhere : (x x' : Image) → ((q : ℕ) → q ≢ b → block x' q ≡ block x q) → (p : ℕ) → p ≢ place → block (given x') p ≡ block (given x) p
  given-elsewhere x x' same p other = ⊎_elim
      (λ within. rw (block-spread extents journal size blocks x' p within, block-spread extents journal size blocks x p within)
      (given-same x x' same (at_block extents journal blocks p) (λ q at here. other (at_block-apart extents journal blocks p place b apart (at ∙ ap Some here) is))))
      (λ past. let long = length-spread extents journal size blocks in
      rw (get_or_past (given x') p [] (omega (arith, past, long x')), get_or_past (given x) p [] (omega (arith, past, long x))) refl)
      (cases_lt p (spread_count journal blocks))

  -- a write of the block is one of its place
  pub given-set : (x : Image) (bytes : List ℕ) → b < length x → given (set x b bytes) ≡ set (given x) place bytes
  given-set x bytes within =
      let long = length-spread extents journal size blocks in
      ext_get_or [] (given (set x b bytes)) (set (given x) place bytes) (long (set x b bytes) ∙ sym (long x) ∙ sym (length-set (given x) place bytes))
      (λ p below. grind (
        arith,
        given-here x,
        given-here (set x b bytes),
        get_or-set_same x b bytes [] within,
        get_or-set_same (given x) place bytes [] (omega (arith, long x, inside)),
        given-elsewhere x (set x b bytes) (λ q other. get_or-set_other x b q bytes [] other) p,
        get_or-set_other (given x) place p bytes [],
      ))

  -- so is a torn one
  pub given-torn : (x x' : Image) (bytes : List ℕ) → Torn b bytes x x' → Torn place bytes (given x) (given x')
  given-torn x x' bytes torn = record {
    count = length-spread extents journal size blocks x' ∙ sym (length-spread extents journal size blocks x);
    elsewhere = given-elsewhere x x' torn.elsewhere;
    size = rw (given-here x', given-here x) torn.size;
    sectors = λ k. rw (given-here x', given-here x) (torn.sectors k);
  }

-- ---- how a crash goes on

module _ {D : Type 0} (d d' : ExtentsDisk D) (G : Ghosts D) (same : (x : Image) → within G d' x ≡ within G d x) where
  pub goes-within : (step step' : Image → Image → Type 0) → ((x x' : Image) → step x x' → step' (within G d x) (within G d x'))
      → Goes G.may_leave G.moment G.left_since step (whole_disk d) (whole_disk d')
      → Goes (WithinLeaves G) (λ d. G.moment (whole_disk d)) (WithinLeft G) step' d d'
  goes-within step step' gives call = record {
    crash = λ c left.
        let from = call.crash left.0 left.1 in
        (within G d from.0, (from.0, from.1, refl), subst (step' (within G d from.0)) (sym (left.2 ∙ same left.0)) (gives from.0 left.0 from.2));
    later = call.later;
    nothing_else = λ t c earlier left. ⊎_elim
        (λ before. inl (left.0, before, left.2 ∙ same left.0))
        (λ now. inr (left.0, now, left.2))
        (call.nothing_else t left.0 earlier left.1);
    keeps = λ t c earlier left. (left.0, call.keeps t left.0 earlier left.1, left.2 ∙ sym (same left.0));
  }
