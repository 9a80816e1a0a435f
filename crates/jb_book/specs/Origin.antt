-- What a desk was started with: the disk and its homes at that time, and what its handles may hold.
use Rattle.std.specs.Prelude.{ℕ, List, [], All, Result, Ok, Err}
use Rattle.jb_disk.specs.Image.{Image}
use Rattle.jb_format.specs.Front.{super_on}
use Rattle.jb_handle.specs.Word.{WordMap}
use Rattle.jb_handle.specs.declared.stopped.Stopped.{Stopped}
use Rattle.jb_format.specs.Ready.{revoking}
use Rattle.jb_super.specs.Superblock.{Superblock, new_super}
use Rattle.jb_super.specs.declared.fault.SuperFault.{SuperFault}

-- what is known of the disk when a desk begins, and of the words that its handles may stop with
pub record Begun : Type 1 where
  -- whether anything is known of the start; where it is not, nothing is said of the disk
  pub is_known : Type 0
  -- what is known of the calls before the start: where it holds, no write and no sync of the disk had failed then
  pub none_failed : Type 0
  -- of the disk at the start: the size of a block, how many there are, and how many calls have failed
  pub size : ℕ
  pub count : ℕ
  pub faults : ℕ
  -- the journal's superblock
  pub own : Superblock
  -- what the homes held
  pub homes : ℕ → List ℕ
  -- a moment, and what a crash since it might have left until the start
  pub since : ℕ
  pub left : Image → Type 0
  -- the words with which a handle may stop
  pub stops : WordMap → Type 0

-- the superblock that was read, with the feature for revoke blocks
abbrev pub revoking_in : Result Superblock SuperFault → Superblock
revoking_in (Ok sb) = revoking sb
revoking_in (Err fault) = new_super 0 0 0 []

-- the superblock of the journal on a disk, with the feature for revoke blocks, which opening it sets
abbrev pub own_on : ℕ → ℕ → Image → Superblock
own_on size count c = revoking_in (super_on size count c)

-- nothing is known of the start, and handles stop with any words
abbrev pub unknown : Begun
unknown =
    record {
      is_known = ⊥;
      none_failed = ⊥;
      size = 0;
      count = 0;
      faults = 0;
      own = new_super 0 0 0 [];
      homes = λ home. [];
      since = 0;
      left = λ c. ⊥;
      stops = λ words. Unit {0};
    }

-- each of the handles stopped with words that a handle may stop with
abbrev pub AreStops : Begun → List Stopped → Type 0
AreStops b hs = All (λ h. b.stops h.words) hs
