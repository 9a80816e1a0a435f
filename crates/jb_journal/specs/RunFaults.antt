-- Why a journal was not run, and what its disk holds then.
use Rattle.std.specs.Prelude.{◌≡◌, ◌⊎◌, ℕ, All, List, [], map, Option, IfSome, option_to_list}
use Rattle.jb_cost.specs.Pieces.{joined}
use Rattle.jb_board.specs.HistoryRule.{IsFirstPart}
use Rattle.jb_book.specs.History.{IsStop}
use Rattle.jb_book.specs.OpenDisk.{NotOpened, WasOpened, WasOpenedAs}
use Rattle.jb_book.specs.Origin.{Begun}
use Rattle.jb_book.specs.Since.{IsSinceOf}
use Rattle.jb_deck.specs.Deck.{OpenDeck}
use Rattle.jb_deck.specs.declared.fault.OpenFault.TheVariants as opening
use Rattle.jb_disk.specs.declared.disk.Disk.{Ghosts}
use Rattle.jb_handle.specs.Word.{WordMap}
use Rattle.jb_handle.specs.declared.shape.Shape.{Shape}
use Rattle.jb_journal.specs.Client.{AreHonest}
use Rattle.jb_journal.specs.Notes.{Known, KnownLasts, Stop}
use Rattle.jb_journal.specs.Run.{AreAnswers}
use Rattle.jb_journal.specs.declared.fault.RunFault.{RunFault}
use Rattle.jb_journal.specs.declared.fault.RunFault.TheVariants.{Open, Memory, NoThread, Accounts}
use Rattle.jb_journal.specs.declared.image_not_run.ImageNotRun.{ImageNotRun}
use Rattle.jb_journal.specs.declared.image_not_run.ImageNotRun.TheVariants as image
use Rattle.jb_journal.specs.declared.journal_fault.JournalFault.{JournalFault}
use Rattle.jb_journal.specs.declared.journal_fault.JournalFault.TheVariants as told
use Rattle.jb_journal.specs.declared.not_run.NotRun.{NotRun}
use Rattle.jb_journal.specs.declared.options.Commits.{Commits}
use Rattle.jb_journal.specs.declared.options.Commits.TheVariants.{Meanwhile}

module _ {D : Type 0} (G : Ghosts D) (b : Begun) where
  -- the journal was given no handle since the start
  abbrev pub HasNoHandle : OpenDeck D → Type 0
  HasNoHandle d = IsSinceOf G b (λ h. ⊥) d

  -- the journal on the disk was given none
  pub record IsUnused (disk : D) : Type 0 where
    pub deck : OpenDeck D
    pub same_disk : deck.disk ≡ disk
    pub none : HasNoHandle deck

  -- the journal on the first disk was opened and closed, and nothing was done to it: this is its disk
  pub record IsOpenedOnly (first disk : D) : Type 0 where
    pub shape : Shape
    pub deck : OpenDeck D
    pub opened : WasOpenedAs G first shape deck
    pub same_disk : deck.disk ≡ disk
    pub none : HasNoHandle deck

  -- What is kept of a run of this many workers that has no whole answer: there are the handles that each worker's
  -- client has stopped, and what it knew and had seen of the journal, with which it answered what it may, if it was
  -- called; these are the answers. There is one history of stops, and the journal on the disk was given the first of
  -- them. What a client knew to be committed at some moment, what a crash at any time since then leaves has. Where the
  -- disk is honest, it was so at all that any client has seen
  pub record StandsOf {T : Type 0} (may : Type 0 → ℕ → ℕ → List Stop → Known → T → Type 0) (workers : ℕ) (disk : D)
      (given : List T) : Type 0 where
    pub stopped : List (List Stop)
    pub known : List Known
    pub seen : List (List (OpenDeck D))
    pub told : List (Option T)
    pub answers : AreAnswers G (λ sure many at stops knows answer. IfSome answer (may sure many at stops knows)) workers
        stopped known seen told
    pub same_answers : given ≡ joined (map option_to_list told)
    pub log : List WordMap
    pub deck : OpenDeck D
    pub same_disk : deck.disk ≡ disk
    pub since : IsSinceOf G b (IsStop b log) deck
    pub last : All (KnownLasts G b log since.given since.bounds disk deck.trail) known
    pub honest : G.honest disk → All (AreHonest G) seen

  -- a run at a desk has no whole answer: the accounts do not agree; or for want of a thread, where commits are made
  -- while the workers are at work and at no other time, no worker has answered, and no handle has stopped
  abbrev pub StopsAtDesk : {T : Type 0} → Commits → (Type 0 → ℕ → ℕ → List Stop → Known → T → Type 0) → ℕ → NotRun T D
      → Type 0
  StopsAtDesk commits may workers back =
      ((back.fault ≡ Accounts) × StandsOf may workers back.disk back.answers.items)
      ⊎ ((back.fault ≡ NoThread) × (commits ≡ Meanwhile) × IsUnused back.disk × (back.answers.items ≡ []))

  -- so has a run on a journal that was opened with this disk: or there was no memory, and this is the disk
  abbrev pub StopsRun : {T : Type 0} → D → Commits → (Type 0 → ℕ → ℕ → List Stop → Known → T → Type 0) → ℕ → NotRun T D
      → Type 0
  StopsRun opened commits may workers back =
      StopsAtDesk commits may workers back ⊎ ((back.fault ≡ Memory) × (back.disk ≡ opened) × (back.answers.items ≡ []))

module _ {T D : Type 0} (G : Ghosts D) (disk : D) (b : Begun) (commits : Commits)
    (may : Shape → Type 0 → ℕ → ℕ → List Stop → Known → T → Type 0) (workers : ℕ) where
  -- the journal on the disk was not opened, for this; or it was opened, and there was no memory, a thread was missing,
  -- or the accounts do not agree
  abbrev pub RefusesRun : RunFault → D → List T → Type 0
  RefusesRun (Open why) after answers = NotOpened G disk after why × (answers ≡ [])
  RefusesRun Memory after answers = IsOpenedOnly G b disk after × (answers ≡ [])
  RefusesRun NoThread after answers =
      ((shape : Shape) × WasOpened G disk shape) × (commits ≡ Meanwhile) × IsUnused G b after × (answers ≡ [])
  RefusesRun Accounts after answers =
      (shape : Shape) × WasOpened G disk shape × StandsOf G b (may shape) workers after answers

  -- the same of what is handed back
  abbrev pub IsNotRun : NotRun T D → Type 0
  IsNotRun back = RefusesRun back.fault back.disk back.answers.items

-- what is told of a journal that was not run: why it was not, or the failed call of its disk, where the opening ended
-- with one and the disk tells it
abbrev pub TellsNotRun : {T D : Type 0} → Ghosts D → NotRun T D → JournalFault → Type 0
TellsNotRun G back (told.Run fault) = fault ≡ back.fault
TellsNotRun G back (told.Device failure) = (back.fault ≡ Open opening.DeviceFault) × G.tells back.disk failure
TellsNotRun G back _ = ⊥

-- what is told of an image that was not run: why it was not opened, or what is told of its journal
abbrev pub TellsImageNotRun : {T D : Type 0} → Ghosts D → ImageNotRun T D → JournalFault → Type 0
TellsImageNotRun G (image.Open fault) given = given ≡ fault
TellsImageNotRun G (image.Run back) given = TellsNotRun G back given
