-- A dump of a journal whose log is searched for a transaction that it has lost.
use Rattle.std.specs.Prelude.{◌≡◌, ℕ, Bool, true, false, List, Option, None, Some, Result, Ok, Err}
use Rattle.jb_args.specs.PlainCommand.{DumpWords}
use Rattle.jb_disk.specs.declared.disk.Disk.{Ghosts as Disks}
use Rattle.jb_dump.specs.declared.dump_filter.DumpFilter.{DumpFilter}
use Rattle.jb_recover.specs.CheckedFaults.{CheckedPeekFaults}
use Rattle.jb_recover.specs.Lost.{TellsLost}
use Rattle.jb_recover.specs.Passes.{PassedBy}
use Rattle.jb_recover.specs.declared.checked_fault.CheckedPeekFault.{CheckedPeekFault}
use Rattle.jb_recover.specs.declared.lost.Lost.{Lost}
use Rattle.jb_recover.specs.declared.lost.Lost.TheVariants as lost
use Rattle.jb_commands.specs.Dump.{DumpsSaying, choice_of, is_searched}
use Rattle.jb_commands.specs.Faults.{peek_fault}
use Rattle.jb_commands.specs.declared.fault.CommandFault.{CommandFault}
use Rattle.jb_commands.specs.declared.fault.CommandFault.TheVariants as fault

-- what is reported of a transaction that is lost
abbrev pub lost_fault : Lost → CommandFault
lost_fault (lost.Wrong what place) = fault.BadChecksum what place
lost_fault (lost.Commit place) = fault.Lost place

-- how a dump ends where a log has lost a transaction, or has not: once its lines are written, that is reported
abbrev pub end_unless_lost : Option Lost → Result ℕ CommandFault → Result ℕ CommandFault
end_unless_lost None dumped = dumped
end_unless_lost (Some found) (Ok status) = Err (lost_fault found)
end_unless_lost (Some found) (Err stop) = Err stop

module _ {D : Type 0} (G : Disks D) where
  -- the log of the journal on a disk was searched, with this answer; the disk was only read
  pub record IsSearched (old new : D) (told : Result (Option Lost) CheckedPeekFault) : Type 0 where
    pub passed : PassedBy G (λ r. CheckedPeekFaults r) told old new
    pub tells : G.honest new → TellsLost (G.size old) (G.count old) (G.newest old) told

  -- what follows: it is refused, and nothing is written; or its lines are written, and what is lost is reported
  abbrev pub DumpsBehind : DumpFilter → Result (Option Lost) CheckedPeekFault → Option (List ℕ) → Option (List ℕ)
      → Result ℕ CommandFault → Type 0
  DumpsBehind filter (Ok found) out_old out_new end =
      (dumped : Result ℕ CommandFault) × DumpsSaying filter None None out_old out_new dumped
      × (end ≡ end_unless_lost found dumped)
  DumpsBehind filter (Err stop) out_old out_new end = (end ≡ Err (peek_fault None stop)) × (out_new ≡ out_old)

  -- a disk's journal was searched so, and dumped
  abbrev pub DumpsSearched : DumpFilter → D → Option (List ℕ) → Option (List ℕ) → Result ℕ CommandFault → Type 0
  DumpsSearched filter old out_old out_new end =
      (new : D) × (told : Result (Option Lost) CheckedPeekFault) × IsSearched old new told
      × DumpsBehind filter told out_old out_new end

  -- a disk's journal was dumped, and searched before or not
  abbrev pub DumpsEither : Bool → DumpFilter → D → Option (List ℕ) → Option (List ℕ) → Result ℕ CommandFault → Type 0
  DumpsEither true filter disk out_old out_new end = DumpsSearched filter disk out_old out_new end
  DumpsEither false filter disk out_old out_new end = DumpsSaying filter None None out_old out_new end

  -- the same by the words
  abbrev pub DumpsDisk : DumpWords → D → Option (List ℕ) → Option (List ℕ) → Result ℕ CommandFault → Type 0
  DumpsDisk words disk out_old out_new end = DumpsEither (is_searched words) (choice_of words) disk out_old out_new end
