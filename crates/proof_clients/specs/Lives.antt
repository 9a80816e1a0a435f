-- Lives of a journal: each opens it, commits a batch, perhaps checkpoints a transaction, closes it, and ends with a
-- crash and a recovery.
use Rattle.std.specs.Prelude.{◌≡◌, ◌⊎◌, ℕ, ◌+◌, ◌%◌, ◌^◌, Bool, true, List, [], ◌∷◌, ◌++◌, Ok}
use Rattle.jb_block.specs.Size.{bytes_of}
use Rattle.jb_disk.specs.History.{DiskHistory, IsHistorySound, MayLeave, newest_of}
use Rattle.jb_disk.specs.Image.{Image, Only, block}
use Rattle.jb_super.specs.Journal.{SameJournal}
use Rattle.jb_super.specs.Superblock.{Superblock}
use Rattle.jb_handle.specs.declared.stopped.Stopped.{Stopped}
use Rattle.jb_plan.specs.Prepare.{IsPlanned, Planned}
use Rattle.jb_format.specs.Front.{super_on}
use Rattle.jb_format.specs.Ready.{revoking}
use Rattle.jb_recover.specs.Outcomes.{recovered}
use Rattle.jb_deck.specs.Changes.{DeckChange, HoldsAfter}
use Rattle.jb_deck.specs.Deck.{IsShapeOf}
use Rattle.jb_deck.specs.GroupsOfBatch.{groups_in}
use Rattle.jb_deck.specs.Open.{recovered_home}
use Rattle.proof_clients.specs.Programs.{HasChanges, IsPartOf, all_changes, commits}

-- ---- what a life changes

-- a batch of these handles, with a plan for the journal that has this superblock and the feature for revoke blocks, on
-- a disk of this many blocks
pub record IsBatchOf (own : Superblock) (count : ℕ) (handles : List Stopped) (batch : Planned) : Type 0 where
  pub planned : IsPlanned batch
  pub same : batch.batch.handles ≡ handles
  pub shape : IsShapeOf (revoking own) count batch.batch.shape

-- a part of what a life changes that commits these handles, with this many groups: nothing, or the first groups of a
-- batch of them
pub data IsPartOfLife (own : Superblock) (count : ℕ) (handles : List Stopped) : List DeckChange → ℕ → Type 0 where
  nothing : IsPartOfLife own count handles [] 0
  of_batch : (batch : Planned) (changes : List DeckChange) (groups : ℕ) → IsBatchOf own count handles batch
      → IsPartOf (commits batch ∷ []) changes groups → IsPartOfLife own count handles changes groups

-- all of it
pub record IsWholeLife (own : Superblock) (count : ℕ) (handles : List Stopped) (changes : List DeckChange) (groups : ℕ)
    : Type 0 where
  pub batch : Planned
  pub is : IsBatchOf own count handles batch
  pub all : changes ≡ all_changes (commits batch ∷ [])
  pub every : groups ≡ groups_in batch.groups

-- The last number after a life with this many groups and the recovery after it: the groups' last one where there was
-- nothing to recover, and else the one after it, as a field of 32 bits holds it.
abbrev pub CountsOn : ℕ → ℕ → ℕ → Type 0
CountsOn last groups now = (now ≡ last + groups) ⊎ (now ≡ (last + 1 + groups) % 2 ^ 32)

-- Lives one after another, of a journal whose last number was this one: the handles that each was to commit, whether
-- that was reported as done, what all of them changed, in order, and the last number after them. Each life changed a
-- part of what it was to change, and all of it where that was reported.
pub data AreLives (own : Superblock) (count last : ℕ) : List (List Stopped) → List Bool → List DeckChange → ℕ
    → Type 0 where
  no_life : AreLives own count last [] [] [] last
  one_life : (lives : List (List Stopped)) (reported : List Bool) (done : List DeckChange) (before : ℕ)
      (handles : List Stopped) (committed : Bool) (changes : List DeckChange) (groups now : ℕ)
      → AreLives own count last lives reported done before
      → IsPartOfLife own count handles changes groups
      → (committed ≡ true → IsWholeLife own count handles changes groups)
      → CountsOn before groups now
      → AreLives own count last (lives ++ handles ∷ []) (reported ++ committed ∷ []) (done ++ changes) now

-- ---- what the disk holds

-- A journal that was recovered: there is nothing to recover, its superblock is its own, with the feature for revoke
-- blocks or without it, and this is the last number; and each home holds what these changes say, counted from how the
-- homes were at first.
pub record HoldsChanges (own : Superblock) (last size count : ℕ) (before : ℕ → List ℕ) (changes : List DeckChange)
    (c : Image) : Type 0 where
  pub sb : Superblock
  pub same : SameJournal own sb ⊎ SameJournal (revoking own) sb
  pub taken : super_on size count c ≡ Ok sb
  pub clean : sb.start ≡ 0
  pub number : sb.sequence ≡ last
  pub homes : (home : ℕ) → HoldsAfter changes home (before home) (block c (own.maxlen + home))

-- A crash left the image in a life that found the journal so and was to commit these handles: it has a part of that,
-- and all of it once it is reported.
pub record LeftByLife (size count : ℕ) (base : Image) (handles : List Stopped) (committed : Bool) (c : Image)
    : Type 0 where
  pub changes : List DeckChange
  pub groups : ℕ
  pub has : HasChanges size count base changes groups c
  pub part : IsPartOfLife has.own count handles changes groups
  pub all : committed ≡ true → IsWholeLife has.own count handles changes groups

-- After one life more, which was to commit these handles, a journal that had these changes has a part of that besides:
-- all of it where it was reported. Its numbers count the groups.
pub record HoldsLife (own : Superblock) (last size count : ℕ) (before : ℕ → List ℕ) (done : List DeckChange)
    (handles : List Stopped) (committed : Bool) (c : Image) : Type 0 where
  pub changes : List DeckChange
  pub groups : ℕ
  pub part : IsPartOfLife own count handles changes groups
  pub all : committed ≡ true → IsWholeLife own count handles changes groups
  pub now : ℕ
  pub counts : CountsOn last groups now
  pub holds : HoldsChanges own now size count before (done ++ changes) c

-- The journal of the old image was recovered, and then had lives one after another, in each of which it was to commit
-- such handles; these were reported as committed or not. The new image, which the last recovery made, holds what they
-- changed, counted from the homes as the first recovery left them, at the number that follows.
pub record HasLives (size count : ℕ) (lives : List (List Stopped)) (reported : List Bool) (old new : Image)
    : Type 0 where
  pub own : Superblock
  pub was : super_on size count old ≡ Ok own
  pub last : ℕ
  pub begun : HoldsChanges own last size count (recovered_home size count old) [] (recovered size count old)
  pub changes : List DeckChange
  pub now : ℕ
  pub are : AreLives own count last lives reported changes now
  pub holds : HoldsChanges own now size count (recovered_home size count old) changes new

-- a disk in memory that was recovered: a crash leaves its newest content alone, which recovery leaves as it is
pub record IsAtRest (disk : DiskHistory) : Type 0 where
  pub sound : IsHistorySound disk
  pub only : Only (newest_of disk) (MayLeave disk.first disk.steps)
  pub still : recovered (bytes_of disk.size) disk.count (newest_of disk) ≡ newest_of disk
