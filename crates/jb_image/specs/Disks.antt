-- A journal and the file system that it is in, as one disk.
use Rattle.std.specs.Prelude.{◌≡◌, ℕ, ◌+◌, ◌-◌, ◌^◌, Bool, false, if◌then◌else◌, List, [], ◌∷◌, max, min, nat_lt}
use Rattle.std.specs.Prelude.{Option, Some, None, option_and_then}
use Rattle.jb_disk.specs.OneCall.{Called, Reads, Writes, Syncs}
use Rattle.jb_disk.specs.Faults.{CountsCall, CountsOne}
use Rattle.jb_image.specs.Lists.{holds_in, list_of, meets_in, place_within}
use Rattle.jb_map.specs.declared.extent.Extent.{Extent}
use Rattle.jb_image.specs.declared.extents_disk.ExtentsDisk.{ExtentsDisk}
use Rattle.jb_image.specs.declared.extents.Extents.{Extents}

-- the image
abbrev pub whole_disk : {D : Type 0} → ExtentsDisk D → D
whole_disk d = d.disk

-- where the journal is in it
abbrev pub extents_of : {D : Type 0} → ExtentsDisk D → Extents
extents_of d = d.extents

-- how many blocks the journal has
abbrev pub journal_blocks : {D : Type 0} → ExtentsDisk D → ℕ
journal_blocks d = d.journal

-- how many calls failed without a call of the image
abbrev pub refused_calls : {D : Type 0} → ExtentsDisk D → ℕ
refused_calls d = d.failed

-- how many blocks a journal and an image have together, up to the largest number
abbrev pub spread_count : ℕ → ℕ → ℕ
spread_count journal count = min (journal + count) (2 ^ 64 - 1)

-- a block, where the image has this many
abbrev pub in_image : ℕ → ℕ → Option ℕ
in_image blocks block = if nat_lt block blocks then Some block else None

-- the block of the image that a place is: of the journal by the extents; else the home block of its number, unless it
-- is one of the journal's own
abbrev pub at_block : Extents → ℕ → ℕ → ℕ → Option ℕ
at_block extents journal blocks place =
    if nat_lt place journal then option_and_then (in_image blocks) (place_within (list_of extents) place)
    else if holds_in (list_of extents) (place - journal) then None
    else in_image blocks (place - journal)

-- the first of these home blocks that is one of the journal's own
abbrev pub own_in : Extents → List ℕ → Option ℕ
own_in extents [] = None
own_in extents (home ∷ homes) = if holds_in (list_of extents) home then Some home else own_in extents homes

-- this many home blocks from this one on, up to the largest number; of none, as of one
abbrev pub asked_homes : ℕ → ℕ → Extent
asked_homes home count = record { first = home; last = min (home + (max count 1 - 1)) (2 ^ 64 - 1) }

-- one of these that is one of the journal's own, of the first extent that has one
abbrev pub own_among : Extents → ℕ → ℕ → Option ℕ
own_among extents home count = meets_in (asked_homes home count) (list_of extents)

-- the extents and the journal's length stay
pub record KeepsExtents {D : Type 0} (old new : ExtentsDisk D) : Type 0 where
  pub extents : extents_of new ≡ extents_of old
  pub journal : journal_blocks new ≡ journal_blocks old

-- a call that the image is given, once: it makes of it what the image says of one call, and fails where the image
-- counts a fault
pub record GivenOn {D : Type 0} (faults : D → ℕ) (own : Called → D → D → Bool → Type 0) (call : Called)
    (old new : ExtentsDisk D) (ok : Bool) : Type 0 where
  pub once : own call (whole_disk old) (whole_disk new) ok
  pub counted : CountsCall ok (faults (whole_disk old)) (faults (whole_disk new))
  pub unfailed : refused_calls new ≡ refused_calls old
  pub stays : KeepsExtents old new

-- a call that the image is not given: it fails, and the image stays as it is
pub record NotGiven {D : Type 0} (old new : ExtentsDisk D) (ok : Bool) : Type 0 where
  pub fails : ok ≡ false
  pub same : whole_disk new ≡ whole_disk old
  pub counted : CountsOne false (refused_calls old) (refused_calls new)
  pub stays : KeepsExtents old new

module _ {D : Type 0} (count faults : D → ℕ) (own : Called → D → D → Bool → Type 0) where
  -- a call for a block, where there is one
  abbrev pub GivenAt : Option ℕ → (ℕ → Called) → ExtentsDisk D → ExtentsDisk D → Bool → Type 0
  GivenAt (Some block) call old new ok = GivenOn faults own (call block) old new ok
  GivenAt None call old new ok = NotGiven old new ok

  -- what a call makes of the image
  abbrev pub ExtentsCalled : Called → ExtentsDisk D → ExtentsDisk D → Bool → Type 0
  ExtentsCalled (Reads place) old new ok =
      GivenAt (at_block (extents_of old) (journal_blocks old) (count (whole_disk old)) place) (λ block. Reads block) old
      new ok
  ExtentsCalled (Writes place bytes) old new ok =
      GivenAt (at_block (extents_of old) (journal_blocks old) (count (whole_disk old)) place)
      (λ block. Writes block bytes) old new ok
  ExtentsCalled Syncs old new ok = GivenOn faults own Syncs old new ok
