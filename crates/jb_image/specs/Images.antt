-- An image as a disk: one disk, two, or one in extents of which the journal is.
use Rattle.std.proofs.Common.{◌≤◌, ◌⊎◌, ℕ, Bool, true, false, List, ◌++◌, length, Option, None, refl}
use Rattle.jb_block.specs.Size.{IsBlockSize}
use Rattle.jb_disk.specs.OneCall.{Called}
use Rattle.jb_disk.specs.Faults.{counted}
use Rattle.jb_disk.specs.Image.{Image, HasShape}
use Rattle.jb_disk.specs.declared.disk.Disk.{Ghosts}
use Rattle.jb_disk.specs.declared.failure.Failure.{Failure}
use Rattle.jb_image.specs.Disks.{ExtentsCalled, extents_of, refused_calls, journal_blocks, own_among, own_in}
use Rattle.jb_image.specs.Disks.{spread_count, whole_disk}
use Rattle.jb_image.specs.ExtentImage.{IsHonestWithin, WithinLeaves, WithinLeft, within, within-shape}
use Rattle.jb_image.specs.Laws.{counts_both, has_both_shapes, leaves_newest, only_both, since_has_both_shapes}
use Rattle.jb_image.specs.Pair.{back_disk, front_disk, joined_count, past_states, AreWellAsked, IsHonestPair}
use Rattle.jb_image.specs.Pair.{MayGoOnBoth, PairCalled, PairLeaves, PairLeftSince}
use Rattle.jb_image.specs.declared.image.ImageDisk.{ImageDisk}
use Rattle.jb_image.specs.declared.image.ImageDisk.TheVariants.{One, Two, Within}

-- the journal is within the home blocks
abbrev pub is_within : {D E : Type 0} → ImageDisk D E → Bool
is_within (One disk) = false
is_within (Two pair) = false
is_within (Within disk) = true

-- the first of these home blocks that is one of the journal's own
abbrev pub own_home : {D E : Type 0} → ImageDisk D E → List ℕ → Option ℕ
own_home (One disk) homes = None
own_home (Two pair) homes = None
own_home (Within disk) homes = own_in (extents_of disk) homes

-- one of this many home blocks from this one on that is one of the journal's own
abbrev pub own_asked : {D E : Type 0} → ImageDisk D E → ℕ → ℕ → Option ℕ
own_asked (One disk) home count = None
own_asked (Two pair) home count = None
own_asked (Within disk) home count = own_among (extents_of disk) home count

module _ {D E : Type 0} (G : Ghosts D) (H : Ghosts E) where
  -- the bytes of its blocks: of two disks, of those of the journal's
  abbrev pub image_size : ImageDisk D E → ℕ
  image_size (One disk) = G.size disk
  image_size (Two pair) = H.size (front_disk pair)
  image_size (Within disk) = G.size (whole_disk disk)

  -- how many blocks it has
  abbrev pub image_count : ImageDisk D E → ℕ
  image_count (One disk) = G.count disk
  image_count (Two pair) =
      joined_count (H.size (front_disk pair)) (H.count (front_disk pair)) (G.size (back_disk pair))
      (G.count (back_disk pair))
  image_count (Within disk) = spread_count (journal_blocks disk) (G.count (whole_disk disk))

  -- how many calls of it have failed
  abbrev pub image_faults : ImageDisk D E → ℕ
  image_faults (One disk) = G.faults disk
  image_faults (Two pair) = counted (H.faults (front_disk pair)) (G.faults (back_disk pair))
  image_faults (Within disk) = counted (G.faults (whole_disk disk)) (refused_calls disk)

  -- the last call of one of its disks that failed was this one, and for this reason
  abbrev pub ImageTells : ImageDisk D E → Failure → Type 0
  ImageTells (One disk) = G.tells disk
  ImageTells (Two pair) = λ failure. H.tells (front_disk pair) failure ⊎ G.tells (back_disk pair) failure
  ImageTells (Within disk) = G.tells (whole_disk disk)

  -- the disks that it is are honest
  abbrev pub IsHonestImage : ImageDisk D E → Type 0
  IsHonestImage (One disk) = G.honest disk
  IsHonestImage (Two pair) = IsHonestPair H G pair
  IsHonestImage (Within disk) = IsHonestWithin G disk

  -- no write and no sync of the disks that it is has failed
  abbrev pub MayImageGoOn : ImageDisk D E → Type 0
  MayImageGoOn (One disk) = G.may_go_on disk
  MayImageGoOn (Two pair) = MayGoOnBoth H G pair
  MayImageGoOn (Within disk) = G.may_go_on (whole_disk disk)

  -- no call of them came after a write or a sync that failed
  abbrev pub IsImageWellAsked : ImageDisk D E → Type 0
  IsImageWellAsked (One disk) = G.well_asked disk
  IsImageWellAsked (Two pair) = AreWellAsked H G pair
  IsImageWellAsked (Within disk) = G.well_asked (whole_disk disk)

  -- the blocks as reads give them
  abbrev pub image_newest : ImageDisk D E → Image
  image_newest (One disk) = G.newest disk
  image_newest (Two pair) = H.newest (front_disk pair) ++ G.newest (back_disk pair)
  image_newest (Within disk) = within G disk (G.newest (whole_disk disk))

  -- what a crash may leave of it
  abbrev pub ImageLeaves : ImageDisk D E → Image → Type 0
  ImageLeaves (One disk) = G.may_leave disk
  ImageLeaves (Two pair) = PairLeaves H G pair
  ImageLeaves (Within disk) = WithinLeaves G disk

  -- the moment, as a number
  abbrev pub image_moment : ImageDisk D E → ℕ
  image_moment (One disk) = G.moment disk
  image_moment (Two pair) = length (past_states pair)
  image_moment (Within disk) = G.moment (whole_disk disk)

  -- what a crash might have left of it since that moment
  abbrev pub ImageLeft : ImageDisk D E → ℕ → Image → Type 0
  ImageLeft (One disk) = G.left_since disk
  ImageLeft (Two pair) = PairLeftSince H G pair
  ImageLeft (Within disk) = WithinLeft G disk

  -- what a call makes of it: one call of its disk, or of one of its two, or a sync of both
  abbrev pub ImageCalled : Called → ImageDisk D E → ImageDisk D E → Bool → Type 0
  ImageCalled call (One old) (One new) ok = G.own call old new ok
  ImageCalled call (Two old) (Two new) ok = PairCalled H.count H.faults H.own G.faults G.own call old new ok
  ImageCalled call (Within old) (Within new) ok = ExtentsCalled G.count G.faults G.own call old new ok
  ImageCalled call (One old) (Two new) ok = ⊥
  ImageCalled call (One old) (Within new) ok = ⊥
  ImageCalled call (Two old) (One new) ok = ⊥
  ImageCalled call (Two old) (Within new) ok = ⊥
  ImageCalled call (Within old) (One new) ok = ⊥
  ImageCalled call (Within old) (Two new) ok = ⊥

  -- ---- the laws, by those of the two kinds of disks

  -- its blocks have one of the sizes that a journal's may have
  pub has_image_size : ((disk : D) → IsBlockSize (G.size disk)) → ((disk : E) → IsBlockSize (H.size disk))
      → (image : ImageDisk D E) → IsBlockSize (image_size image)
  has_image_size one other (One disk) = one disk
  has_image_size one other (Two pair) = other (front_disk pair)
  has_image_size one other (Within disk) = one (whole_disk disk)

  -- a crash may leave what a read gives
  pub newest_may_stay : ((disk : D) → G.honest disk → G.may_leave disk (G.newest disk))
      → ((disk : E) → H.honest disk → H.may_leave disk (H.newest disk))
      → (image : ImageDisk D E) → IsHonestImage image → ImageLeaves image (image_newest image)
  newest_may_stay one other (One disk) honest = one disk honest
  newest_may_stay one other (Two pair) honest =
      leaves_newest H G pair (other (front_disk pair) honest.first) (one (back_disk pair) honest.second)
  newest_may_stay one other (Within disk) honest =
      (G.newest (whole_disk disk), one (whole_disk disk) honest.whole, refl)

  -- what a crash may leave has its shape
  pub has_image_shape : ((disk : D) (c : Image) → G.honest disk → G.may_leave disk c
      → HasShape (G.count disk) (G.size disk) c)
      → ((disk : E) (c : Image) → H.honest disk → H.may_leave disk c → HasShape (H.count disk) (H.size disk) c)
      → (image : ImageDisk D E) (c : Image) → IsHonestImage image → ImageLeaves image c
      → HasShape (image_count image) (image_size image) c
  has_image_shape one other (One disk) c honest left = one disk c honest left
  has_image_shape one other (Two pair) c honest left =
      has_both_shapes H G pair c honest (λ x. other (front_disk pair) x honest.first)
      (λ y. one (back_disk pair) y honest.second) left
  has_image_shape one other (Within disk) c honest left =
      within-shape (extents_of disk) (journal_blocks disk) (G.size (whole_disk disk)) (G.count (whole_disk disk)) c
      left.0 (one (whole_disk disk) left.0 honest.whole left.1) left.2

  -- so has what a crash since a moment might have left
  pub has_shape_since : ((disk : D) (t : ℕ) (c : Image) → G.honest disk → G.left_since disk t c
      → HasShape (G.count disk) (G.size disk) c)
      → (image : ImageDisk D E) (t : ℕ) (c : Image) → IsHonestImage image → ImageLeft image t c
      → HasShape (image_count image) (image_size image) c
  has_shape_since one (One disk) t c honest left = one disk t c honest left
  has_shape_since one (Two pair) t c honest left = since_has_both_shapes H G pair t c left
  has_shape_since one (Within disk) t c honest left =
      within-shape (extents_of disk) (journal_blocks disk) (G.size (whole_disk disk)) (G.count (whole_disk disk)) c
      left.0 (one (whole_disk disk) t left.0 honest.whole left.1) left.2

  -- this moment is one of those since an earlier one
  pub counts_now : ((disk : D) (t : ℕ) (c : Image) → G.honest disk → t ≤ G.moment disk → G.may_leave disk c
      → G.left_since disk t c)
      → ((disk : D) (c : Image) → G.honest disk → G.may_leave disk c → HasShape (G.count disk) (G.size disk) c)
      → ((disk : E) (c : Image) → H.honest disk → H.may_leave disk c → HasShape (H.count disk) (H.size disk) c)
      → (image : ImageDisk D E) (t : ℕ) (c : Image) → IsHonestImage image → t ≤ image_moment image → ImageLeaves image c
      → ImageLeft image t c
  counts_now counts one other (One disk) t c honest earlier left = counts disk t c honest earlier left
  counts_now counts one other (Two pair) t c honest earlier left =
      counts_both H G pair t c honest (λ x. other (front_disk pair) x honest.first)
      (λ y. one (back_disk pair) y honest.second) earlier left
  counts_now counts one other (Within disk) t c honest earlier left =
      (left.0, counts (whole_disk disk) t left.0 honest.whole earlier left.1, left.2)

  -- since this moment there is no other
  pub only_now : ((disk : D) (c : Image) → G.honest disk → G.left_since disk (G.moment disk) c → G.may_leave disk c)
      → (image : ImageDisk D E) (c : Image) → IsHonestImage image → ImageLeft image (image_moment image) c
      → ImageLeaves image c
  only_now only (One disk) c honest left = only disk c honest left
  only_now only (Two pair) c honest left = only_both H G pair c left
  only_now only (Within disk) c honest left = (left.0, only (whole_disk disk) left.0 honest.whole left.1, left.2)
