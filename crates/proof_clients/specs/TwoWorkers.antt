-- What two workers have done, of which the first has told the second what it has written.
use Rattle.std.specs.Prelude.{◌≡◌, ℕ, List, [], ◌∷◌, Some, slice_get}
use Rattle.jb_journal.specs.Client.{one_block}
use Rattle.jb_journal.specs.Names.{Begun, Ghosts}
use Rattle.jb_journal.specs.Notes.{IsInNotes, Known, ReadsAs, Stop}
use Rattle.jb_journal.specs.Run.{RanOn}
use Rattle.jb_journal.specs.Start.{started_on}
use Rattle.jb_journal.specs.Stays.{HandleStays}
use Rattle.jb_journal.specs.declared.ran.Ran.{Ran}
use Rattle.proof_clients.specs.declared.telling.Found.{Found}
use Rattle.proof_clients.specs.declared.telling.Found.TheVariants.{Wrote, Read, Failed}

-- the home that is written and read
abbrev pub home : ℕ
home = 3

-- one handle stopped, with this ticket, which wrote these bytes to the home and touched no other; it is known to be
-- committed
pub record HasWritten (bytes : List ℕ) (stops : List Stop) (known : Known) (ticket : ℕ) : Type 0 where
  pub stopped : stops ≡ (ticket, one_block home bytes) ∷ []
  pub number : ℕ
  pub noted : IsInNotes known.notes ticket number

-- no handle stopped; the handle with this ticket was known to be committed when these bytes were read from the home, of
-- a disk that is sure to have been honest
pub record HasReadThen (b : Begun) (sure : Type 0) (stops : List Stop) (known : Known) (ticket : ℕ) (found : List ℕ)
    : Type 0 where
  pub stopped : stops ≡ []
  pub before : Known
  pub number : ℕ
  pub noted : IsInNotes before.notes ticket number
  pub reads : ReadsAs b sure before known home found

-- what a worker has done whose client has stopped these handles, and knows this
abbrev pub HasFound : List ℕ → Begun → Type 0 → List Stop → Known → Found → Type 0
HasFound bytes b sure stops known (Wrote ticket) = HasWritten bytes stops known ticket
HasFound bytes b sure stops known (Read ticket found) = HasReadThen b sure stops known ticket found
HasFound bytes b sure stops known Failed = Unit {0}

-- What was run of the two workers. Where the first has written, its handle stays: what a crash at any time since it was
-- known to be committed leaves, has it. Where the second has read then, and the disk that is given back is honest, it
-- has read what the first has written
pub record TwoHaveWorked {D : Type 0} (G : Ghosts D) (bytes : List ℕ) (disk : D) (ran : Ran Found D) : Type 0 where
  pub on : RanOn G disk (started_on G disk)
      (λ shape sure workers at stops known found. HasFound bytes (started_on G disk) sure stops known found) 2 ran
  pub wrote : (ticket : ℕ) → slice_get ran.answers.items 0 ≡ Some (Wrote ticket)
      → (known : Known) × (slice_get on.all.known 0 ≡ Some known)
      × HandleStays G (started_on G disk) (λ sure workers at stops known found.
      HasFound bytes (started_on G disk) sure stops known found) 2 on.shape ran on.all known.notes
      (ticket, one_block home bytes)
  pub read : (ticket told : ℕ) (found : List ℕ) → slice_get ran.answers.items 0 ≡ Some (Wrote ticket)
      → slice_get ran.answers.items 1 ≡ Some (Read told found) → G.honest ran.disk → (told ≡ ticket) × (found ≡ bytes)
