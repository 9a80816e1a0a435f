-- The calls that a file was asked, each with its answer, and when those answers are the ones of an honest file.
use Rattle.std.specs.Prelude.{◌≡◌, ◌≤◌, ◌⊎◌, ℕ, zero, suc, ◌+◌, ◌*◌, ◌/◌, ◌==◌, Bool, true, false, List, [], ◌∷◌}
use Rattle.std.specs.Prelude.{length, slice_index}
use Rattle.jb_disk.specs.Image.{Image, block, HasShape}
use Rattle.jb_disk.specs.Runs.{ReadsRun, WroteRun, TornRun}

-- A call of the system with its answer.
pub data SystemCall : Type 0 where
  -- bytes were asked for from this offset on, all came or not, and these are the buffer's then
  Asked : ℕ → Bool → List ℕ → SystemCall
  -- these bytes were given from this offset on, and all were taken or not
  Gave : ℕ → Bool → List ℕ → SystemCall
  -- a sync, which succeeded or not
  Flushed : Bool → SystemCall
  -- the file's length in bytes
  Measured : ℕ → SystemCall

-- the event of this kind, at an offset or with a length
abbrev pub event_by : ℕ → ℕ → Bool → List ℕ → SystemCall
event_by zero at ok bytes = Asked at ok bytes
event_by (suc zero) at ok bytes = Gave at ok bytes
event_by (suc (suc zero)) at ok bytes = Flushed ok
event_by (suc (suc (suc more))) at ok bytes = Measured at

-- the event that these numbers and bytes note: its kind, its offset or length, and 1 where it succeeded
abbrev pub event_of : List ℕ → List ℕ → SystemCall
event_of numbers bytes = event_by (slice_index numbers 0) (slice_index numbers 1) (slice_index numbers 2 == 1) bytes

-- Bytes from an offset on are whole blocks from a place on. Of any other bytes nothing is said.
abbrev pub InBlocks : ℕ → ℕ → List ℕ → (ℕ → ℕ → Type 0) → Type 0
InBlocks size at bytes P = (place n : ℕ) → at ≡ place * size → length bytes ≡ size * n → P place n

-- as many blocks, each as long
pub record SameShape (old new : Image) : Type 0 where
  pub count : length new ≡ length old
  pub sizes : (p : ℕ) → length (block new p) ≡ length (block old p)

-- What an honest file makes of its content by one call. A read that succeeds gives the content; a write that fails
-- leaves each sector of its blocks as it was or as it was given.
abbrev pub Makes : ℕ → SystemCall → Image → Image → Type 0
Makes size (Asked at true bytes) old new =
    (new ≡ old) × InBlocks size at bytes (λ place n. ReadsRun size n place old bytes)
Makes size (Asked at false bytes) old new = new ≡ old
Makes size (Gave at true bytes) old new = InBlocks size at bytes (λ place n. WroteRun size n place bytes old new)
Makes size (Gave at false bytes) old new = InBlocks size at bytes (λ place n. TornRun size n place bytes old new)
Makes size (Flushed ok) old new = new ≡ old
Makes size (Measured len) old new = (new ≡ old) × (length old ≡ len / size)

-- no write or sync that failed
abbrev pub IsUnfailed : SystemCall → Type 0
IsUnfailed (Asked at ok bytes) = Unit {0}
IsUnfailed (Gave at true bytes) = Unit {0}
IsUnfailed (Gave at false bytes) = ⊥
IsUnfailed (Flushed true) = Unit {0}
IsUnfailed (Flushed false) = ⊥
IsUnfailed (Measured len) = Unit {0}

-- No write and no sync has failed. After a sync that failed the system may have dropped what was written and still call
-- the next sync a success, so nothing may be asked then.
abbrev pub NoneFailed : List SystemCall → Type 0
NoneFailed [] = Unit {0}
NoneFailed (e ∷ older) = IsUnfailed e × NoneFailed older

-- no call came after a write or a sync that failed
abbrev pub NoneAfter : List SystemCall → Type 0
NoneAfter [] = Unit {0}
NoneAfter (e ∷ older) = NoneFailed older

-- One call noted no more than one event of this kind, with this answer: where it failed it noted one. (A run of blocks
-- is one call of the system, and the calls of its other blocks note nothing.)
abbrev pub NotesAtMost : (ℕ → Bool → List ℕ → SystemCall) → Bool → List SystemCall → List SystemCall → Type 0
NotesAtMost kind ok old new =
    ((at : ℕ) × (bytes : List ℕ) × (new ≡ kind at ok bytes ∷ old)) ⊎ ((ok ≡ true) × (new ≡ old))

-- the answers are those of a file that had this content after each number of calls
abbrev pub Agree : ℕ → (ℕ → Image) → List SystemCall → Type 0
Agree size content [] = Unit {0}
Agree size content (e ∷ older) =
    Agree size content older × Makes size e (content (length older)) (content (length (e ∷ older)))

-- what a crash may leave after a call, from what it could leave before it and the content
abbrev pub LeftBy : ℕ → SystemCall → Image → (Image → Type 0) → Image → Type 0
LeftBy size (Asked at ok bytes) now before c = before c
LeftBy size (Gave at ok bytes) now before c =
    (d : Image) × before d × SameShape d c × InBlocks size at bytes (λ place n. TornRun size n place bytes d c)
LeftBy size (Flushed true) now before c = c ≡ now
LeftBy size (Flushed false) now before c = before c
LeftBy size (Measured len) now before c = before c

-- What a crash may leave after these calls. At the first of them nothing was pending.
abbrev pub Leaves : ℕ → (ℕ → Image) → List SystemCall → Image → Type 0
Leaves size content [] c = c ≡ content 0
Leaves size content (e ∷ older) c = LeftBy size e (content (length older)) (Leaves size content older) c

-- what a crash may have left when t calls had been made, or later
abbrev pub LeftFrom : ℕ → (ℕ → Image) → List SystemCall → ℕ → Image → Type 0
LeftFrom size content [] t c = (t ≤ 0) × Leaves size content [] c
LeftFrom size content (e ∷ older) t c =
    ((t ≤ length older + 1) × Leaves size content (e ∷ older) c) ⊎ LeftFrom size content older t c

-- a record of calls is that of an honest file, which had this content after each number of calls
abbrev pub IsHonestFile : ℕ → ℕ → (ℕ → Image) → List SystemCall → Type 0
IsHonestFile size count content events = ((t : ℕ) → HasShape count size (content t)) × Agree size content events
