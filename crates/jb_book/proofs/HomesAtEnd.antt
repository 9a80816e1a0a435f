-- What the disk of a journal holds of which no group is live.
use Rattle.std.proofs.Common.{◌≡◌, ℕ, ◌+◌, false, List, [], ap, subst}
use Rattle.jb_disk.specs.Image.{block}
use Rattle.jb_disk.specs.declared.disk.Disk.{Ghosts}
use Rattle.jb_group.specs.declared.group.Group.{Group}
use Rattle.jb_handle.specs.Words.{word}
use Rattle.jb_handle.specs.declared.stopped.Stopped.{Stopped}
use Rattle.jb_log.specs.Follows.{StandsBy}
use Rattle.jb_log.specs.Log.{standing}
use Rattle.jb_super.specs.Superblock.{Superblock}
use Rattle.jb_deck.specs.Deck.{OpenDeck}
use Rattle.jb_book.specs.AtHome.{AreHome}
use Rattle.jb_book.specs.Origin.{Begun}
use Rattle.jb_book.specs.Since.{Since}

-- its homes stand on the disk alone
pub are-home : {D : Type 0} (G : Ghosts D) (b : Begun) (given : List Stopped) (bounds : List ℕ) (d : OpenDeck D) → Since G b given bounds d → d.aborted ≡ false → d.groups ≡ [] → AreHome G b given d.disk
are-home G b given bounds d since up none home =
    let stands = subst (λ (gs : List Group). StandsBy (word given home) (b.homes home) (standing d.log gs (G.newest d.disk) home)) none (since.stood up home) in
    subst (λ (n : ℕ). StandsBy (word given home) (b.homes home) (block (G.newest d.disk) (n + home))) (ap (λ (sb : Superblock). sb.maxlen) since.same) stands
