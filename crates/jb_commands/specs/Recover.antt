-- How a recovery of a disk ends, and what it reports.
use Rattle.std.specs.Prelude.{◌≡◌, ℕ, Bool, true, false, List, [], ◌∷◌, Option, Some, Result, Ok, Err, codes}
use Rattle.jb_ext.specs.declared.choosing.MapSource.{MapSource}
use Rattle.jb_ext.specs.declared.choosing.MapSource.TheVariants.{Backup}
use Rattle.jb_json.specs.Facts.{Fact, Counted, Marked}
use Rattle.jb_recover.specs.declared.checked_fault.CheckedFault.{CheckedFault}
use Rattle.jb_recover.specs.declared.recovered.Recovered.{Recovered}
use Rattle.jb_super.specs.declared.checked.Checksums.{Checksums}
use Rattle.jb_commands.specs.Checking.{RecoversBy}
use Rattle.jb_commands.specs.Faults.{recover_fault}
use Rattle.jb_commands.specs.declared.fault.CommandFault.{CommandFault}
use Rattle.jb_commands.specs.declared.report.Report.{Report}
use Rattle.jb_commands.specs.declared.report.Report.TheVariants.{Recovered as ReportsRecovered}
use Rattle.jb_disk.specs.declared.disk.Disk.{Ghosts as Disks}

-- whether a journal was found by the superblock's copy of its map
abbrev pub is_backup : Option MapSource → Bool
is_backup (Some Backup) = true
is_backup _ = false

-- what a recovery reports, of a journal of which this said where it is
abbrev pub recovered_facts : Option MapSource → Recovered → List Fact
recovered_facts found r =
    Counted (codes "transactions") r.transactions ∷ Counted (codes "copies") r.copies
    ∷ Counted (codes "revoked") r.revoked
    ∷ Counted (codes "next") r.next ∷ Marked (codes "backup") (is_backup found) ∷ []

-- what a recovery answered, as the command's end: its counts, and what said where the journal is; or its fault with the
-- number of home blocks
abbrev pub recovery_end : Option ℕ → Option MapSource → Result Recovered CheckedFault → Result Report CommandFault
recovery_end homes found (Ok done) = Ok (ReportsRecovered done found)
recovery_end homes found (Err fault) = Err (recover_fault homes fault)

-- the disk was recovered, where checksums are allowed or not, and that answer is reported
pub record RecoversOn {D : Type 0} (sums : Checksums) (G : Disks D) (homes : Option ℕ) (found : Option MapSource)
    (old new : D) (end : Result Report CommandFault) : Type 0 where
  pub answer : Result Recovered CheckedFault
  pub recovers : RecoversBy sums G old new answer
  pub told : end ≡ recovery_end homes found answer
