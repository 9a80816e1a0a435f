-- What an image holds, as the disk of a journal that is within it gives it.
use Rattle.std.proofs.Common.{◌≡◌, ◌<◌, ◌≤◌, ◌-◌, ◌⊎◌, ℕ, Bool, false, cond, List, [], length, map, replicate, Option}
use Rattle.std.proofs.Common.{Some, None, refl, sym, ◌∙◌, ap, subst, inl, inr, ⊎_elim, arith}
use Rattle.std.specs.List.{range_with_len}
use Rattle.std.specs.Prelude.{nat_lt, option_and_then}
use Rattle.std.proofs.lemmas.Bool.{cases_Bool, ltb-false, ltb-true}
use Rattle.std.proofs.lemmas.List.{length-replicate}
use Rattle.std.proofs.lemmas.List.FromFn.{get_or-map-range_with_len, length-map-range_with_len}
use Rattle.std.proofs.lemmas.Option.{cond_some, none-some, option_and_then_some}
use Rattle.jb_disk.specs.Image.{Image, block, HasShape}
use Rattle.jb_disk.specs.declared.disk.Disk.{Ghosts}
use Rattle.jb_image.specs.Disks.{at_block, extents_of, in_image, journal_blocks, spread_count, whole_disk}
use Rattle.jb_image.specs.Lists.{AreDisjoint, holds_in, list_of, place_within}
use Rattle.jb_map.specs.Twice.{AreForward}
use Rattle.jb_image.specs.declared.extents_disk.ExtentsDisk.{ExtentsDisk}
use Rattle.jb_map.specs.declared.extent.Extent.{Extent}
use Rattle.jb_image.specs.declared.extents.Extents.{Extents}

-- no block is in two of the extents, and none of them ends before it begins
pub record AreApart (es : List Extent) : Type 0 where
  pub unshared : AreDisjoint es
  pub forward : AreForward es

-- what is at a place: the block of the image that it is; zeros at one that is none, of which each read fails
abbrev pub block_given : ℕ → Image → Option ℕ → List ℕ
block_given size c (Some b) = block c b
block_given size c None = replicate size 0

-- an image of this many blocks of this size, place by place
abbrev pub spread : Extents → ℕ → ℕ → ℕ → Image → Image
spread extents journal size blocks c =
    map (λ place. block_given size c (at_block extents journal blocks place))
    (range_with_len 0 (spread_count journal blocks))

module _ {D : Type 0} (G : Ghosts D) where
  -- The image is honest, and no two places are one block of it.
  pub record IsHonestWithin (d : ExtentsDisk D) : Type 0 where
    pub whole : G.honest (whole_disk d)
    pub apart : AreApart (list_of (extents_of d))

  -- what the disk holds where the image holds this
  abbrev pub within : ExtentsDisk D → Image → Image
  within d c = spread (extents_of d) (journal_blocks d) (G.size (whole_disk d)) (G.count (whole_disk d)) c

  -- what a crash may leave of it: what it may leave of the image
  abbrev pub WithinLeaves : ExtentsDisk D → Image → Type 0
  WithinLeaves d c = (x : Image) × G.may_leave (whole_disk d) x × (c ≡ within d x)

  -- what a crash might have left of it since that moment
  abbrev pub WithinLeft : ExtentsDisk D → ℕ → Image → Type 0
  WithinLeft d t c = (x : Image) × G.left_since (whole_disk d) t x × (c ≡ within d x)

-- ---- the blocks

-- what is at a place
pub block-spread : (extents : Extents) (journal size blocks : ℕ) (c : Image) (place : ℕ)
    → place < spread_count journal blocks
    → block (spread extents journal size blocks c) place ≡ block_given size c (at_block extents journal blocks place)
block-spread extents journal size blocks c place inside =
    get_or-map-range_with_len (λ place. block_given size c (at_block extents journal blocks place)) 0
    (spread_count journal blocks) place place [] inside (omega arith)

-- as many blocks as the image has
pub length-spread : (extents : Extents) (journal size blocks : ℕ) (c : Image)
    → length (spread extents journal size blocks c) ≡ spread_count journal blocks
length-spread extents journal size blocks c =
    length-map-range_with_len (λ place. block_given size c (at_block extents journal blocks place)) 0
    (spread_count journal blocks)

-- ---- a place is a block of the image

-- a block of the image
in_image-is : (blocks block b : ℕ) → in_image blocks block ≡ Some b → (b < blocks) × (block ≡ b)
in_image-is blocks block b is =
    let split = cond_some (nat_lt block blocks) block b is in
    (subst (λ k. k < blocks) split.1 (ltb-true block blocks split.0), split.1)

-- what a place is where it is the block b of the image: a block of the journal, or a home block that is none of the
-- journal's
pub record IsBlock (es : List Extent) (journal blocks place b : ℕ) : Type 0 where
  pub inside : b < blocks
  pub either : ((place < journal) × (place_within es place ≡ Some b))
      ⊎ ((journal ≤ place) × (holds_in es b ≡ false) × (place - journal ≡ b))

-- the block that `at_block` gives is the one at the place
pub at_block-is : (extents : Extents) (journal blocks place b : ℕ) → at_block extents journal blocks place ≡ Some b
    → IsBlock (list_of extents) journal blocks place b
at_block-is extents journal blocks place b is =
    let es = list_of extents in
    let of_journal = option_and_then (in_image blocks) (place_within es place) in
    let of_homes = λ (own : Bool). cond own None (in_image blocks (place - journal)) in
    ⊎_elim
    (λ yes.
    let found : of_journal ≡ Some b =
    subst (λ t. cond t of_journal (of_homes (holds_in es (place - journal))) ≡ Some b) yes is in
    option_and_then_some (in_image blocks) (place_within es place) b found (λ x here within.
    let split = in_image-is blocks x b within in
    record { inside = split.0; either = inl (ltb-true place journal yes, here ∙ ap Some split.1) }))
    (λ no.
    let found : of_homes (holds_in es (place - journal)) ≡ Some b =
    subst (λ t. cond t of_journal (of_homes (holds_in es (place - journal))) ≡ Some b) no is in
    ⊎_elim
    (λ own. absurd (none-some b (subst (λ t. of_homes t ≡ Some b) own found)))
    (λ other.
    let split = in_image-is blocks (place - journal) b (subst (λ t. of_homes t ≡ Some b) other found) in
    record {
      inside = split.0;
      either = inr (ltb-false place journal no, subst (λ k. holds_in es k ≡ false) split.1 other, split.1);
    })
    (cases_Bool (holds_in es (place - journal))))
    (cases_Bool (nat_lt place journal))

-- so what is there has the image's block size
given-size : (size blocks : ℕ) (c : Image) (at : Option ℕ) → HasShape blocks size c
    → ((b : ℕ) → at ≡ Some b → b < blocks) → length (block_given size c at) ≡ size
given-size size blocks c (Some b) shape inside = shape.bytes b (inside b refl)
given-size size blocks c None shape inside = length-replicate size 0

-- what is spread over the extents has the shape of the image
pub spread-shape : (extents : Extents) (journal size blocks : ℕ) (c : Image) → HasShape blocks size c
    → HasShape (spread_count journal blocks) size (spread extents journal size blocks c)
spread-shape extents journal size blocks c shape = record {
  blocks = length-spread extents journal size blocks c;
  bytes = λ place inside.
      ap length (block-spread extents journal size blocks c place inside)
      ∙ given-size size blocks c (at_block extents journal blocks place) shape
      (λ b is. (at_block-is extents journal blocks place b is).inside);
}

-- what the disk may hold has its shape where what the image holds has the image's
pub within-shape : (extents : Extents) (journal size blocks : ℕ) (c x : Image) → HasShape blocks size x
    → c ≡ spread extents journal size blocks x → HasShape (spread_count journal blocks) size c
within-shape extents journal size blocks c x shape is =
    subst (HasShape (spread_count journal blocks) size) (sym is) (spread-shape extents journal size blocks x shape)
