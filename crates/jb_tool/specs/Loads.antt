-- What a load answers, and what it has left on its disk.
use Rattle.std.specs.Prelude.{◌≡◌, ◌≢◌, ℕ, Bool, true, false, List, length, Option, IfSome, Result, Ok, Err}
use Rattle.std.specs.Duration.{as_nanos}
use Rattle.std.specs.List.{sum_by}
use Rattle.jb_block.specs.Size.{bytes_of}
use Rattle.jb_block.specs.declared.size.BlockSize.{BlockSize}
use Rattle.jb_disk.specs.declared.disk.Disk.{Ghosts}
use Rattle.jb_handle.specs.declared.shape.Shape.{Shape}
use Rattle.jb_handle.specs.declared.stopped.Stopped.{Stopped}
use Rattle.jb_deck.specs.Done.{Follow}
use Rattle.jb_book.specs.OpenDisk.{NotOpened, WasOpened}
use Rattle.jb_book.specs.Origin.{Begun}
use Rattle.jb_journal.specs.RunFaults.{IsOpenedOnly}
use Rattle.jb_journal.specs.Run.{EndsRun, RanOn}
use Rattle.jb_journal.specs.declared.options.Commits.{Commits}
use Rattle.jb_journal.specs.declared.options.Commits.TheVariants.{MeanwhileOrAfter, After}
use Rattle.jb_journal.specs.declared.options.Options.{Options}
use Rattle.jb_journal.specs.declared.ran.Ran.{Ran}
use Rattle.jb_tool.specs.FirstRefused.{first_refused}
use Rattle.jb_tool.specs.Runs.{IsRun}
use Rattle.jb_tool.specs.declared.loading.fault.LoadFault.{LoadFault}
use Rattle.jb_tool.specs.declared.loading.fault.LoadFault.TheVariants as fault
use Rattle.jb_tool.specs.declared.loading.loaded.Loaded.{Loaded}
use Rattle.jb_tool.specs.declared.loading.loaded.Refused.{Refused}
use Rattle.jb_tool.specs.declared.loading.options.LoadOptions.{LoadOptions}

-- when the handles of a load are committed: after its workers where they are held, and else meanwhile, if the system
-- makes the threads
abbrev pub commits_of : Bool → Commits
commits_of true = After
commits_of false = MeanwhileOrAfter

-- how the journal of a load is run: no commit is put off, and a group that is written home is so as soon as it is
-- committed
pub record IsRunBy (options : LoadOptions) (run : Options) : Type 0 where
  pub workers : run.workers ≡ options.threads
  pub commits : run.commits ≡ commits_of options.hold
  pub checkpoint : run.checkpoint ≡ options.checkpoint
  pub level : run.level ≡ 0
  pub time : as_nanos run.delay.time ≡ 0
  pub handles : run.delay.handles ≡ 0

-- the counts are those of a run, for a queue of this many handles: the groups are those of its trail, with their
-- blocks, and the refused handle is the earliest of those that its workers have refused
pub record CountsRun {D : Type 0} (queued : ℕ) (ran : Ran (Option Refused) D) (loaded : Loaded) : Type 0 where
  pub are_queued : loaded.queued ≡ queued
  pub have_stopped : loaded.handles ≡ ran.handles
  pub have_changed : loaded.changes ≡ ran.changes
  pub are_settled : loaded.settled ≡ ran.settled
  pub groups : loaded.groups ≡ length ran.trail.items
  pub blocks : loaded.blocks ≡ sum_by (λ e. e.blocks) ran.trail.items
  pub refused : loaded.refused ≡ first_refused ran.answers.items
  pub commit : loaded.commit ≡ ran.commit
  pub checkpoint : loaded.checkpoint ≡ ran.checkpoint

module _ {D : Type 0} (G : Ghosts D) (b : Begun) where
  -- The journal on the disk of before was opened, it was run with the handles of the queue, and has left this disk:
  -- each worker has answered the first of its handles that was refused, and has stopped those before it. No entry was
  -- taken from the trail, and the counts are those of the run
  pub record LoadedSince (before : D) (queue : List Stopped) (options : LoadOptions) (loaded : Loaded) (disk : D)
      : Type 0 where
    pub ran : Ran (Option Refused) D
    pub on : RanOn G before b (λ shape sure workers at stops known refused. IsRun shape queue workers at stops refused)
        options.threads ran
    pub ends : EndsRun options.checkpoint ran
    pub follows : Follow 0 0 ran.settled ran.trail.items
    pub same_disk : ran.disk ≡ disk
    pub counts : CountsRun (length queue) ran loaded

  -- What a load answers to a queue of blocks of this size. Only where the size is not the disk's does it answer so.
  -- Where the journal was not opened, or only opened, some disk that this one has become is lost; of the first it is
  -- known what that told of its last call that failed
  abbrev pub AnswersLoad : D → BlockSize → List Stopped → LoadOptions → Result (Loaded × D) LoadFault → Type 0
  AnswersLoad disk bs queue options (Err fault.BlockSize) = bytes_of bs ≢ G.size disk
  AnswersLoad disk bs queue options (Err (fault.Open why told)) =
      (bytes_of bs ≡ G.size disk) × ((after : D) × NotOpened G disk after why × IfSome told (G.tells after))
  AnswersLoad disk bs queue options (Err fault.Memory) =
      (bytes_of bs ≡ G.size disk) × ((after : D) × IsOpenedOnly G b disk after)
  AnswersLoad disk bs queue options (Err fault.Accounts) =
      (bytes_of bs ≡ G.size disk) × ((shape : Shape) × WasOpened G disk shape)
  AnswersLoad disk bs queue options (Ok ended) =
      (bytes_of bs ≡ G.size disk) × LoadedSince disk queue options ended.0 ended.1
