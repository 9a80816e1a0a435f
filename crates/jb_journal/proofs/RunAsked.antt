-- What was asked of the disk of a journal that was not run.
use Rattle.std.proofs.Common.{◌≡◌, ℕ, ◌<◌, List, subst, sym, arith}
use Rattle.jb_book.specs.Origin.{Begun}
use Rattle.jb_deck.specs.Deck.{OpenDeck}
use Rattle.jb_deck.specs.Open.{OpenFaults}
use Rattle.jb_deck.specs.declared.fault.OpenFault.{OpenFault}
use Rattle.jb_deck.specs.declared.fault.OpenFault.TheVariants as why_not
use Rattle.jb_disk.specs.Faults.{most_faults}
use Rattle.jb_disk.specs.declared.disk.Disk.{Ghosts}
use Rattle.jb_handle.specs.declared.shape.Shape.{Shape}
use Rattle.jb_handle.specs.declared.stopped.Stopped.{Stopped}
use Rattle.jb_book.specs.Since.{IsSinceOf}
use Rattle.jb_journal.specs.Notes.{Known, Stop}
use Rattle.jb_journal.specs.RunFaults.{RefusesRun}
use Rattle.jb_journal.specs.declared.fault.RunFault.{RunFault}
use Rattle.jb_journal.specs.declared.fault.RunFault.TheVariants.{Open, Memory, NoThread, Accounts}
use Rattle.jb_journal.specs.declared.options.Commits.{Commits}

-- a journal that is not opened has counted no fault less
few-before : (why : OpenFault) (before after : ℕ) → OpenFaults why before after → after < most_faults → before < most_faults
few-before why_not.DeviceFault before after more few = omega (arith, more.no_fewer, few)
few-before (why_not.Super fault) before after same few = omega (arith, same, few)
few-before why_not.NeedsRecovery before after same few = omega (arith, same, few)
few-before why_not.NumbersSpent before after same few = omega (arith, same, few)
few-before why_not.Memory before after same few = omega (arith, same, few)

module _ {D : Type 0} (G : Ghosts D) (b : Begun) (none : b.none_failed) where
  -- of the disk of a journal that was given handles
  since-asked : (is : Stopped → Type 0) (deck : OpenDeck D) (after : D) → IsSinceOf G b is deck → deck.disk ≡ after → G.faults after < most_faults → G.well_asked after
  since-asked is deck after since same few = subst G.well_asked same (since.asked none (subst (λ d. G.faults d < most_faults) (sym same) few)).0

  -- whatever the reason
  pub not-run-asked : {T : Type 0} (disk : D) → G.well_asked disk → G.may_go_on disk → (commits : Commits) (may : Shape → Type 0 → ℕ → ℕ → List Stop → Known → T → Type 0) (workers : ℕ)
      → (fault : RunFault) (after : D) (answers : List T) → RefusesRun G disk b commits may workers fault after answers → G.faults after < most_faults → G.well_asked after
  not-run-asked disk well go commits may workers (Open why) after answers is few = is.0.kept.asked (few-before why (G.faults disk) (G.faults after) is.0.kept.counted few) go well
  not-run-asked disk well go commits may workers Memory after answers is few = since-asked _ is.0.deck after is.0.none is.0.same_disk few
  not-run-asked disk well go commits may workers NoThread after answers is few = let unused = is.2 in since-asked _ unused.deck after unused.none unused.same_disk few
  not-run-asked disk well go commits may workers Accounts after answers is few = let stands = is.2 in since-asked _ stands.deck after stands.since stands.same_disk few
