-- What a load answers, by what the run of its journal answers.
use Rattle.std.proofs.Common.{◌≡◌, ◌≢◌, ℕ, Bool, true, false, List, length, Result, Ok, Err, Option, IfOk, IfErr, subst, sym}
use Rattle.std.specs.Prelude.{IfSome}
use Rattle.jb_block.specs.Size.{bytes_of}
use Rattle.jb_block.specs.declared.size.BlockSize.{BlockSize}
use Rattle.jb_deck.specs.Done.{Follow}
use Rattle.jb_disk.specs.declared.disk.Disk.{Ghosts}
use Rattle.jb_disk.specs.declared.failure.Failure.{Failure}
use Rattle.jb_handle.specs.declared.stopped.Stopped.{Stopped}
use Rattle.jb_book.specs.Origin.{Begun}
use Rattle.jb_handle.specs.declared.shape.Shape.{Shape}
use Rattle.jb_journal.specs.Notes.{Known, Stop}
use Rattle.jb_journal.specs.RunFaults.{RefusesRun}
use Rattle.jb_journal.specs.Run.{EndsRun, RanOn}
use Rattle.jb_journal.specs.declared.fault.RunFault.{RunFault}
use Rattle.jb_journal.specs.declared.fault.RunFault.TheVariants.{Open, Memory, NoThread, Accounts}
use Rattle.jb_journal.specs.declared.options.Commits.{Commits}
use Rattle.jb_journal.specs.declared.options.Commits.TheVariants.{Meanwhile}
use Rattle.jb_journal.specs.declared.ran.Ran.{Ran}
use Rattle.jb_tool.specs.Faults.{not_run}
use Rattle.jb_tool.specs.Loads.{AnswersLoad, CountsRun, commits_of}
use Rattle.jb_tool.specs.Runs.{IsRun}
use Rattle.jb_tool.specs.declared.loading.fault.LoadFault.{LoadFault}
use Rattle.jb_tool.specs.declared.loading.fault.LoadFault.TheVariants as load
use Rattle.jb_tool.specs.declared.loading.loaded.Loaded.{Loaded}
use Rattle.jb_tool.specs.declared.loading.loaded.Refused.{Refused}
use Rattle.jb_tool.specs.declared.loading.options.LoadOptions.{LoadOptions}

-- a load never asks that its handles are committed meanwhile
pub not-meanwhile : (hold : Bool) (commits : Commits) → commits ≡ commits_of hold → commits ≢ Meanwhile
not-meanwhile true commits is = λ same. let h : ⊥ = cc in h
not-meanwhile false commits is = λ same. let h : ⊥ = cc in h

module _ {D : Type 0} (G : Ghosts D) (b : Begun) (disk : D) (bs : BlockSize) (queue : List Stopped) (options : LoadOptions) (same : bytes_of bs ≡ G.size disk) where
  -- it has no answer
  module _ {T : Type 0} (commits : Commits) (may : Shape → Type 0 → ℕ → ℕ → List Stop → Known → T → Type 0) (workers : ℕ) (only : commits ≢ Meanwhile) where
    pub answers-fault : (told : Option Failure) (fault : RunFault) (after : D) (answers : List T) → RefusesRun G disk b commits may workers fault after answers → IfSome told (G.tells after)
        → AnswersLoad G b disk bs queue options (Err (not_run told fault))
    answers-fault told (Open why) after answers is tells = (same, (after, is.0, tells))
    answers-fault told Memory after answers is tells = (same, (after, is.0))
    answers-fault told NoThread after answers is tells = absurd (only is.1)
    answers-fault told Accounts after answers is tells = (same, (is.0, is.1))

    -- no thread is missing
    pub not-thread : (fault : RunFault) (after : D) (answers : List T) → RefusesRun G disk b commits may workers fault after answers → fault ≢ NoThread
    not-thread (Open why) after answers is = λ none. let h : ⊥ = cc in h
    not-thread Memory after answers is = λ none. let h : ⊥ = cc in h
    not-thread NoThread after answers is = λ none. only is.1
    not-thread Accounts after answers is = λ none. let h : ⊥ = cc in h

  -- it was run, and counted up
  pub answers-run : (ran : Ran (Option Refused) D) (workers : ℕ) → workers ≡ options.threads → (checkpoint : Bool) → checkpoint ≡ options.checkpoint
      → RanOn G disk b (λ shape sure workers at stops known refused. IsRun shape queue workers at stops refused) workers ran → EndsRun checkpoint ran
      → (queued : ℕ) → queued ≡ length queue → (r : Result (Loaded × D) LoadFault) → IfOk r (λ told. CountsRun queued ran told.0) → IfOk r (λ told. told.1 ≡ ran.disk)
      → IfOk r (λ told. Follow 0 0 ran.settled ran.trail.items) → IfErr r (λ fault. fault ≡ load.Accounts) → AnswersLoad G b disk bs queue options r
  answers-run ran workers threads checkpoint asked on ends queued many (Ok told) counts back follows none = (
    same,
    record {
      ran = ran;
      on = subst (λ n. RanOn G disk b (λ shape sure workers at stops known refused. IsRun shape queue workers at stops refused) n ran) threads on;
      ends = subst (λ c. EndsRun c ran) asked ends;
      follows = follows;
      same_disk = sym back;
      counts = subst (λ n. CountsRun n ran told.0) many counts;
    },
  )
  answers-run ran workers threads checkpoint asked on ends queued many (Err fault) none back follows is =
      subst (λ (x : LoadFault). AnswersLoad G b disk bs queue options (Err x)) (sym is) (same, (on.shape, on.opened))
