-- Two disks as one.
use Rattle.std.specs.Prelude.{◌≡◌, ◌<◌, ◌+◌, ◌-◌, ◌^◌, ◌==◌, ◌⊎◌, ℕ, Bool, true, false, if◌then◌else◌, min, nat_lt}
use Rattle.std.specs.Prelude.{List}
use Rattle.jb_disk.specs.OneCall.{Called, Reads, Writes, Syncs}
use Rattle.jb_disk.specs.Faults.{CountsCall}
use Rattle.jb_disk.specs.Image.{Image, HasShape}
use Rattle.jb_disk.specs.declared.disk.Disk.{Ghosts}
use Rattle.jb_image.specs.Past.{states, LeavesBoth, LeftOfBoth}
use Rattle.jb_image.specs.declared.pair.PairDisk.{PairDisk}

-- the disk with the first blocks
abbrev pub front_disk : {A B : Type 0} → PairDisk A B → A
front_disk p = p.front

-- the disk with the blocks after them
abbrev pub back_disk : {A B : Type 0} → PairDisk A B → B
back_disk p = p.back

-- what was noted of the two before each call, the last first
abbrev pub past_states : {A B : Type 0} → PairDisk A B → List (A × B)
past_states p = states p.past

-- how many blocks two disks have together: the second's count where they are of the first's size, up to the largest
-- number
abbrev pub joined_count : ℕ → ℕ → ℕ → ℕ → ℕ
joined_count size count other more = if size == other then min (count + more) (2 ^ 64 - 1) else count

-- a call that the first disk is given, once: it makes of it what that disk says of one call, and fails where that disk
-- counts a fault; the second stays as it is
pub record FrontCalled {A B : Type 0} (faults : A → ℕ) (own : Called → A → A → Bool → Type 0) (call : Called)
    (old new : PairDisk A B) (ok : Bool) : Type 0 where
  pub once : own call (front_disk old) (front_disk new) ok
  pub counted : CountsCall ok (faults (front_disk old)) (faults (front_disk new))
  pub other : back_disk new ≡ back_disk old

-- the same of the second
pub record BackCalled {A B : Type 0} (faults : B → ℕ) (own : Called → B → B → Bool → Type 0) (call : Called)
    (old new : PairDisk A B) (ok : Bool) : Type 0 where
  pub once : own call (back_disk old) (back_disk new) ok
  pub counted : CountsCall ok (faults (back_disk old)) (faults (back_disk new))
  pub other : front_disk new ≡ front_disk old

-- both were synced
pub record BothSynced {A B : Type 0} (faults : A → ℕ) (own : Called → A → A → Bool → Type 0) (faults' : B → ℕ)
    (own' : Called → B → B → Bool → Type 0) (old new : PairDisk A B) (ok : Bool) : Type 0 where
  pub first : own Syncs (front_disk old) (front_disk new) true
  pub first_counted : CountsCall true (faults (front_disk old)) (faults (front_disk new))
  pub second : own' Syncs (back_disk old) (back_disk new) ok
  pub second_counted : CountsCall ok (faults' (back_disk old)) (faults' (back_disk new))

module _ {A B : Type 0} (count faults : A → ℕ) (own : Called → A → A → Bool → Type 0) (faults' : B → ℕ)
    (own' : Called → B → B → Bool → Type 0) where
  -- a call for a place, by whether the first disk has it; the second one's places begin at 0 again
  abbrev pub PassesAt : Bool → Called → Called → PairDisk A B → PairDisk A B → Bool → Type 0
  PassesAt true here there old new ok = FrontCalled faults own here old new ok
  PassesAt false here there old new ok = BackCalled faults' own' there old new ok

  -- a sync: it succeeds where both did; where the first failed, the second is not called
  abbrev pub PassesSync : PairDisk A B → PairDisk A B → Bool → Type 0
  PassesSync old new true = BothSynced faults own faults' own' old new true
  PassesSync old new false =
      FrontCalled faults own Syncs old new false ⊎ BothSynced faults own faults' own' old new false

  -- what a call makes of the two disks
  abbrev pub PairCalled : Called → PairDisk A B → PairDisk A B → Bool → Type 0
  PairCalled (Reads place) old new ok =
      PassesAt (nat_lt place (count (front_disk old))) (Reads place) (Reads (place - count (front_disk old))) old new ok
  PairCalled (Writes place bytes) old new ok =
      PassesAt (nat_lt place (count (front_disk old))) (Writes place bytes)
      (Writes (place - count (front_disk old)) bytes) old new ok
  PairCalled Syncs old new ok = PassesSync old new ok

module _ {A B : Type 0} (G : Ghosts A) (H : Ghosts B) where
  -- Both disks are honest, and each block of both is one of the pair.
  pub record IsHonestPair (p : PairDisk A B) : Type 0 where
    pub first : G.honest (front_disk p)
    pub second : H.honest (back_disk p)
    pub same_size : G.size (front_disk p) ≡ H.size (back_disk p)
    pub all_counted : G.count (front_disk p) + H.count (back_disk p) < 2 ^ 64

  -- no write and no sync of either has failed
  pub record MayGoOnBoth (p : PairDisk A B) : Type 0 where
    pub first : G.may_go_on (front_disk p)
    pub second : H.may_go_on (back_disk p)

  -- no call of either came after a write or a sync of it that failed, and of one of the two none has failed
  pub record AreWellAsked (p : PairDisk A B) : Type 0 where
    pub first : G.well_asked (front_disk p)
    pub second : H.well_asked (back_disk p)
    pub one : G.may_go_on (front_disk p) ⊎ H.may_go_on (back_disk p)

  -- what a crash may leave of the pair
  abbrev pub PairLeaves : PairDisk A B → Image → Type 0
  PairLeaves p =
      LeavesBoth G.may_leave G.moment G.left_since H.may_leave H.moment H.left_since (front_disk p, back_disk p)

  -- what a crash might have left of it since that moment: an image of its shape that it left between two calls, or in
  -- one
  pub record PairLeftSince (p : PairDisk A B) (t : ℕ) (c : Image) : Type 0 where
    pub shape : HasShape (joined_count (G.size (front_disk p)) (G.count (front_disk p)) (H.size (back_disk p))
        (H.count (back_disk p))) (G.size (front_disk p)) c
    pub left : LeftOfBoth G.may_leave G.moment G.left_since H.may_leave H.moment H.left_since
        (front_disk p, back_disk p) (past_states p) t c
