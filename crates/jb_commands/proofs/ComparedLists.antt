-- A list of extents and a file system's own journal.
use Rattle.std.proofs.Common.{◌≡◌, ◌<◌, ◌-◌, ◌^◌, ℕ, List, Option, Result, Ok, Err, Some, None, refl, sym, subst, ap, ◌∙◌, arith}
use Rattle.jb_disk.specs.File.{IsMeasured, count_of}
use Rattle.jb_disk.specs.declared.file.FileDisk.{FileDisk}
use Rattle.jb_disk.specs.declared.start.Start.{Ghosts as Starts}
use Rattle.jb_ext.specs.Finds.{FindsJournal}
use Rattle.jb_ext.specs.OwnJournal.{FoundJournal}
use Rattle.jb_ext.specs.declared.fault.FindFault.{FindFault}
use Rattle.jb_format.specs.Front.{homes_in}
use Rattle.jb_image.specs.Disks.{extents_of, journal_blocks, spread_count, whole_disk}
use Rattle.jb_image.specs.Files.{as_file}
use Rattle.jb_image.specs.Lists.{extents_count, list_of}
use Rattle.jb_image.specs.declared.extents.Extents.{Extents}
use Rattle.jb_image.specs.declared.extents_disk.ExtentsDisk.{ExtentsDisk}
use Rattle.jb_image.specs.declared.image.ImageDisk.{ImageDisk}
use Rattle.jb_image.specs.declared.image.ImageDisk.TheVariants.{One, Two, Within}
use Rattle.jb_super.proofs.Soundness.{super_in-sound}
use Rattle.jb_super.specs.Superblock.{Superblock}
use Rattle.jb_super.specs.declared.checked.Checksums.{Checksums}
use Rattle.jb_commands.specs.JournalPlace.{IsOpenedListed}
use Rattle.jb_commands.specs.OwnPlace.{Agrees, AreFew, Disagrees, IsComparedTo, IsOtherThan, IsOwnOpened}
use Rattle.jb_commands.specs.declared.fault.CommandFault.{CommandFault}

module _ {S : Type 0} {start : Starts S} (sums : Checksums) where
  -- the extents agree with what was found in the image
  pub compared-is : (old new : ExtentsDisk (FileDisk S start)) (disk then : FileDisk S start) (es : Extents) (journal : ℕ) (answer : Result FoundJournal FindFault)
      → disk ≡ whole_disk old → es ≡ extents_of old → journal ≡ journal_blocks old
      → whole_disk new ≡ then → extents_of new ≡ es → journal_blocks new ≡ journal
      → FindsJournal as_file sums answer disk then → Agrees (list_of es) answer → IsComparedTo sums old new
  compared-is old new disk then es journal answer was had counted is has counts finds agrees = record {
    answer = answer;
    finds = subst (λ d. FindsJournal as_file sums answer (whole_disk old) d) (sym is) (subst (λ d. FindsJournal as_file sums answer d then) was finds);
    agrees = subst (λ e. Agrees (list_of e) answer) had agrees;
    extents = has ∙ had;
    journal = counts ∙ counted;
  }

  -- they do not
  pub other-is : (old : ExtentsDisk (FileDisk S start)) (disk then : FileDisk S start) (es : Extents) (answer : Result FoundJournal FindFault) (fault : CommandFault)
      → disk ≡ whole_disk old → es ≡ extents_of old → FindsJournal as_file sums answer disk then → Disagrees (list_of es) answer fault → IsOtherThan sums old fault
  other-is old disk then es answer fault was had finds disagrees = record {
    answer = answer;
    new = then;
    finds = subst (λ d. FindsJournal as_file sums answer d then) was finds;
    disagrees = subst (λ e. Disagrees (list_of e) answer fault) had disagrees;
  }

module _ {S T : Type 0} {start : Starts S} {other : Starts T} where
  -- as many extents as a journal has blocks are fewer than the largest number
  pub few-listed : (input : Option (List ℕ)) (word : List ℕ) (disk : ImageDisk (FileDisk S start) (FileDisk T other)) (homes : ℕ) → IsOpenedListed input word disk homes → AreFew disk
  few-listed input word (One file) homes opened = tt
  few-listed input word (Two pair) homes opened = tt
  few-listed input word (Within disk) homes (list, named, (es, listed, sb, found, size, homes-are, (is, journal, held, measured))) =
      let count : extents_count (list_of (extents_of disk)) ≡ sb.maxlen = ap extents_count is ∙ held.exact in
      let few = (super_in-sound found.says.0 sb found.says.1).maxlen in
      omega (arith, count, few)

-- an image was made of a file and of the journal that was found in it
pub own-opened : {S : Type 0} {start : Starts S} (sums : Checksums) (T : Type 0) (other : Starts T) (own : FoundJournal) (old then : FileDisk S start) (whole made : ExtentsDisk (FileDisk S start)) (homes : ℕ) → IsMeasured old → FindsJournal as_file sums (Ok own) old then → whole ≡ made
    → whole_disk made ≡ then → list_of (extents_of made) ≡ own.0 → journal_blocks made ≡ own.2.maxlen
    → homes ≡ homes_in own.2 (spread_count (journal_blocks made) (count_of (whole_disk made))) → IsOwnOpened {T = T} {other = other} sums (Within whole) homes (Some own.1)
own-opened sums T other own old then whole made homes measured finds is disk list journal counted =
    subst (λ w. IsOwnOpened {T = T} {other = other} sums (Within w) homes (Some own.1)) (sym is)
    (own, (old, measured, subst (λ d. FindsJournal as_file sums (Ok own) old d) (sym disk) finds), list, journal, counted, refl)
