-- What a file was asked by the calls of a deck that was opened in it.
use Rattle.std.proofs.Common.{◌≡◌, ◌<◌, false, sym, subst, arith}
use Rattle.jb_disk.specs.Events.{SystemCall, NoneAfter, NoneFailed}
use Rattle.jb_disk.specs.Faults.{most_faults}
use Rattle.jb_disk.specs.File.{IsMeasured, MayGoOn, IsWellAsked}
use Rattle.jb_disk.specs.KeptOn.{KeptOn}
use Rattle.jb_disk.specs.declared.disk.Disk.{Ghosts}
use Rattle.jb_disk.specs.declared.file.FileDisk.{FileDisk}
use Rattle.jb_disk.specs.declared.start.Start.{Ghosts as Starts}
use Rattle.jb_deck.specs.Conduct.{HasCalled, HaveCalled, NoneAfterFault, none, then_call}
use Rattle.jb_deck.specs.Deck.{OpenDeck}

-- a file that was only measured may be asked
pub measured-asked : {S : Type 0} {start : Starts S} (file : FileDisk S start) → IsMeasured file → IsWellAsked file × MayGoOn file
measured-asked file is = (subst NoneAfter (sym is.1) tt, subst NoneFailed (sym is.1) (tt, tt))

module _ {D : Type 0} (G : Ghosts D) (disk : D) (asked : G.well_asked disk × G.may_go_on disk) (fresh : G.faults disk ≡ 0) where
  unfailed : G.faults disk < most_faults
  unfailed = omega (arith, fresh)

  -- whatever became of it where no deck was opened
  pub refused-asked : (counts : _) (back : D) → KeptOn G counts disk back → G.well_asked back
  refused-asked counts back kept = kept.asked unfailed asked.1 asked.0

  -- after three calls of a deck that was opened on it
  pub called-asked : NoneAfterFault G → (a b c d : OpenDeck D) (last : D) → KeptOn G (λ old new. new ≡ old) disk a.disk → HasCalled G a b → HasCalled G b c → HasCalled G c d → last ≡ d.disk
      → G.faults last < most_faults → G.well_asked last
  called-asked law a b c d last kept one two three same few =
      subst G.well_asked (sym same)
      (law a d (then_call c d (then_call b c (then_call a b none one) two) three) (subst (λ x. G.faults x < most_faults) same few)
      (kept.going unfailed asked.1 kept.counted) (kept.asked unfailed asked.1 asked.0)).0
