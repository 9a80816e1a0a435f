-- What a crash leaves of a program: some prefix of what the program changes.
use Rattle.std.specs.Prelude.{◌≡◌, ◌⊎◌, ℕ, ◌+◌, ◌≤◌, List, [], ◌∷◌, ◌++◌, map, Ok, Result, Err}
use Rattle.jb_disk.specs.Image.{Image, block}
use Rattle.jb_super.specs.Superblock.{Superblock}
use Rattle.jb_plan.specs.Prepare.{Planned}
use Rattle.jb_format.specs.Front.{super_on}
use Rattle.jb_format.specs.Ready.{revoking}
use Rattle.jb_recover.specs.Outcomes.{recovered}
use Rattle.jb_log.specs.Frame.{KeepsFrame}
use Rattle.jb_deck.specs.Calls.{IsRecoveredTo}
use Rattle.jb_deck.specs.Changes.{DeckChange, HoldsAfter, fills, settled_in, settles, tears}
use Rattle.jb_deck.specs.Deck.{OpenDeck}
use Rattle.jb_deck.specs.GroupsOfBatch.{groups_in}
use Rattle.jb_deck.specs.Open.{recovered_home}
use Rattle.jb_deck.specs.GroupByGroup.{handles_to}

-- what a program changes by one call: it commits a batch, or writes bytes into a home that is free
pub data ProgramPart : Type 0 where
  commits : Planned → ProgramPart
  writes : ℕ → List ℕ → ProgramPart

-- These changes are a prefix of what the program changes, with this many groups: some whole parts, and then the
-- first groups of a batch, or some sectors of the bytes.
pub data IsPartOf : List ProgramPart → List DeckChange → ℕ → Type 0 where
  no_more : (parts : List ProgramPart) → IsPartOf parts [] 0
  in_batch : (batch : Planned) (parts : List ProgramPart) (groups : ℕ) → groups ≤ groups_in batch.groups
      → IsPartOf (commits batch ∷ parts) (map settles (handles_to batch.groups groups batch.batch.handles)) groups
  after_batch : (batch : Planned) (parts : List ProgramPart) (changes : List DeckChange) (groups : ℕ)
      → IsPartOf parts changes groups
      → IsPartOf (commits batch ∷ parts) (map settles batch.batch.handles ++ changes)
      (groups_in batch.groups + groups)
  in_write : (home : ℕ) (bytes : List ℕ) (parts : List ProgramPart)
      → IsPartOf (writes home bytes ∷ parts) (tears home bytes ∷ []) 0
  after_write : (home : ℕ) (bytes : List ℕ) (parts : List ProgramPart) (changes : List DeckChange) (groups : ℕ)
      → IsPartOf parts changes groups
      → IsPartOf (writes home bytes ∷ parts) (fills home bytes ∷ changes) groups

-- everything that the program changes
abbrev pub all_changes : List ProgramPart → List DeckChange
all_changes [] = []
all_changes (commits batch ∷ parts) = map settles batch.batch.handles ++ all_changes parts
all_changes (writes home bytes ∷ parts) = fills home bytes ∷ all_changes parts

-- how many groups its batches have
abbrev pub all_groups : List ProgramPart → ℕ
all_groups [] = 0
all_groups (commits batch ∷ parts) = groups_in batch.groups + all_groups parts
all_groups (writes home bytes ∷ parts) = all_groups parts

-- The image is of the journal that this one has, with these changes since and this many groups: it is recovered to the
-- handles that were settled, at the number that follows, and each home then holds what the changes say. Its superblock
-- is the one from before, with the feature for revoke blocks or without it; and nothing has changed but that, the log
-- and the homes.
pub record HasChanges (size count : ℕ) (base : Image) (changes : List DeckChange) (groups : ℕ) (c : Image)
    : Type 0 where
  pub own : Superblock
  pub was : super_on size count base ≡ Ok own
  pub recovered_to : IsRecoveredTo own (own.sequence + 1 + groups) size count (recovered_home size count base)
      (settled_in changes) c
      ⊎ IsRecoveredTo (revoking own) (own.sequence + 1 + groups) size count (recovered_home size count base)
      (settled_in changes) c
  pub holds : (home : ℕ) → HoldsAfter changes home (recovered_home size count base home)
      (block (recovered size count c) (own.maxlen + home))
  pub keeps : KeepsFrame own count base c

-- a crash left the image in a program, which found the journal so: it has a prefix of what the program changes
pub record LeftByProgram (size count : ℕ) (base : Image) (parts : List ProgramPart) (c : Image) : Type 0 where
  pub changes : List DeckChange
  pub groups : ℕ
  pub part : IsPartOf parts changes groups
  pub has : HasChanges size count base changes groups c

-- the disk of a client that gives a deck, or gives the disk back
abbrev pub disk_after : {D : Type 0} → Result (OpenDeck D) D → D
disk_after (Ok deck) = deck.disk
disk_after (Err disk) = disk

-- the disk of one that gives it back in any case
abbrev pub disk_either : {D : Type 0} → Result D D → D
disk_either (Ok disk) = disk
disk_either (Err disk) = disk
