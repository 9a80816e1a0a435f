-- A call of an image that is two disks, or one in extents of which the journal stands, is one of these.
use Rattle.std.proofs.Common.{◌≡◌, ℕ, length}
use Rattle.jb_disk.specs.Faults.{counted}
use Rattle.jb_disk.specs.Image.{Image}
use Rattle.jb_disk.specs.Kept.{IsDiskKept, OnlyReads}
use Rattle.jb_disk.specs.KeptOn.{KeptOn, ReadsOn}
use Rattle.jb_disk.specs.Steps.{Steps}
use Rattle.jb_disk.specs.Time.{Goes}
use Rattle.jb_disk.specs.declared.disk.Disk.{Ghosts}
use Rattle.jb_image.proofs.PairKept.{PairKept}
use Rattle.jb_image.specs.Disks.{extents_of, journal_blocks, refused_calls, spread_count, whole_disk}
use Rattle.jb_image.specs.ExtentImage.{IsHonestWithin, WithinLeaves, WithinLeft}
use Rattle.jb_image.specs.declared.extents_disk.ExtentsDisk.{ExtentsDisk}
use Rattle.jb_image.specs.declared.image.ImageDisk.{ImageDisk}
use Rattle.jb_image.specs.declared.image.ImageDisk.TheVariants.{One, Two, Within}
use Rattle.jb_image.specs.declared.pair.PairDisk.{PairDisk}
use Rattle.jb_image.specs.Images.{image_count, image_faults, image_moment, image_size, ImageLeaves, ImageLeft, IsHonestImage, IsImageWellAsked, MayImageGoOn}
use Rattle.jb_image.specs.Pair.{front_disk, past_states, MayGoOnBoth, PairLeaves, PairLeftSince}

module _ {D E : Type 0} (G : Ghosts D) (H : Ghosts E) {step : Image → Image → Type 0} {old : ImageDisk D E} where
  pub goes-two : {p q : PairDisk E D} → old ≡ Two p → Goes (PairLeaves H G) (λ p. length (past_states p)) (PairLeftSince H G) step p q
      → Goes (ImageLeaves G H) (image_moment G H) (ImageLeft G H) step old (Two q)
  goes-two is call = rw is (record { crash = call.crash; later = call.later; nothing_else = call.nothing_else; keeps = call.keeps })

  pub goes-within : {d e : ExtentsDisk D} → old ≡ Within d → Goes (WithinLeaves G) (λ d. G.moment (whole_disk d)) (WithinLeft G) step d e
      → Goes (ImageLeaves G H) (image_moment G H) (ImageLeft G H) step old (Within e)
  goes-within is call = rw is (record { crash = call.crash; later = call.later; nothing_else = call.nothing_else; keeps = call.keeps })

-- a run of blocks of its size
module _ {D E : Type 0} (G : Ghosts D) (H : Ghosts E) (step : ℕ → Image → Image → Type 0) (old : ImageDisk D E) where
  pub steps-two : (p q : PairDisk E D) → old ≡ Two p → Steps (PairLeaves H G) (λ p. length (past_states p)) (PairLeftSince H G) (step (H.size (front_disk p))) p q
      → Steps (ImageLeaves G H) (image_moment G H) (ImageLeft G H) (step (image_size G H old)) old (Two q)
  steps-two p q is run = rw is (record { now = record { each = run.now.each }; leaves = record { later = run.leaves.later; each = run.leaves.each; before = run.leaves.before } })

  pub steps-within : (d e : ExtentsDisk D) → old ≡ Within d → Steps (WithinLeaves G) (λ d. G.moment (whole_disk d)) (WithinLeft G) (step (G.size (whole_disk d))) d e
      → Steps (ImageLeaves G H) (image_moment G H) (ImageLeft G H) (step (image_size G H old)) old (Within e)
  steps-within d e is run = rw is (record { now = record { each = run.now.each }; leaves = record { later = run.leaves.later; each = run.leaves.each; before = run.leaves.before } })

-- what a call of a disk in extents of which the journal stands keeps and counts
abbrev WithinKept : {D : Type 0} → Ghosts D → (ℕ → ℕ → Type 0) → ExtentsDisk D → ExtentsDisk D → Type 0
WithinKept G = IsDiskKept (λ d. G.size (whole_disk d)) (λ d. spread_count (journal_blocks d) (G.count (whole_disk d))) (λ d. counted (G.faults (whole_disk d)) (refused_calls d)) (IsHonestWithin G)
    (λ d. G.may_go_on (whole_disk d)) (λ d. G.well_asked (whole_disk d))

-- and what a call of an image does
module _ {D E : Type 0} (G : Ghosts D) (H : Ghosts E) (counts : ℕ → ℕ → Type 0) where
  abbrev pub ImageKept : ImageDisk D E → ImageDisk D E → Type 0
  ImageKept = IsDiskKept (image_size G H) (image_count G H) (image_faults G H) (IsHonestImage G H) (MayImageGoOn G H) (IsImageWellAsked G H) counts

  pub keeps-one : {old : ImageDisk D E} {d e : D} → old ≡ One d → KeptOn G counts d e → ImageKept old (One e)
  keeps-one is kept = rw is (record { same_size = kept.same_size; same_count = kept.same_count; was_honest = kept.was_honest; counted = kept.counted; asked = kept.asked; going = kept.going })

  pub keeps-two : {old : ImageDisk D E} {p q : PairDisk E D} → old ≡ Two p → PairKept H G counts p q → ImageKept old (Two q)
  keeps-two is kept = rw is (record { same_size = kept.same_size; same_count = kept.same_count; was_honest = kept.was_honest; counted = kept.counted; asked = kept.asked; going = kept.going })

  pub keeps-within : {old : ImageDisk D E} {d e : ExtentsDisk D} → old ≡ Within d → WithinKept G counts d e → ImageKept old (Within e)
  keeps-within is kept = rw is (record { same_size = kept.same_size; same_count = kept.same_count; was_honest = kept.was_honest; counted = kept.counted; asked = kept.asked; going = kept.going })

-- ---- what a call of a disk in extents keeps, by that of the image, or where the image is not given it

module _ {D : Type 0} (G : Ghosts D) (d e : ExtentsDisk D) where
  -- reads of the image are reads of it
  pub reads-within : extents_of e ≡ extents_of d → journal_blocks e ≡ journal_blocks d → {counts : ℕ → ℕ → Type 0} → KeptOn G counts (whole_disk d) (whole_disk e)
      → ReadsOn G (whole_disk d) (whole_disk e) → OnlyReads (WithinLeaves G) (λ d. G.may_go_on (whole_disk d)) d e
  reads-within extents journal kept reads = record {
    pending = λ c left. (left.0, reads.pending left.0 left.1, rw (extents, journal, kept.same_size, kept.same_count) left.2);
    going = reads.going;
  }

-- ---- reads of an image

module _ {D E : Type 0} (G : Ghosts D) (H : Ghosts E) {old : ImageDisk D E} where
  pub reads-one : {d e : D} → old ≡ One d → ReadsOn G d e → OnlyReads (ImageLeaves G H) (MayImageGoOn G H) old (One e)
  reads-one is reads = rw is (record { pending = reads.pending; going = reads.going })

  pub reads-two : {p q : PairDisk E D} → old ≡ Two p → OnlyReads (PairLeaves H G) (MayGoOnBoth H G) p q → OnlyReads (ImageLeaves G H) (MayImageGoOn G H) old (Two q)
  reads-two is reads = rw is (record { pending = reads.pending; going = reads.going })

  pub reads-in : {d e : ExtentsDisk D} → old ≡ Within d → OnlyReads (WithinLeaves G) (λ d. G.may_go_on (whole_disk d)) d e → OnlyReads (ImageLeaves G H) (MayImageGoOn G H) old (Within e)
  reads-in is reads = rw is (record { pending = reads.pending; going = reads.going })
