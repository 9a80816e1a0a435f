-- What the loss of power before a call of the disk leaves of a run.
use Rattle.std.specs.Prelude.{◌≡◌, ◌≤◌, ℕ, All, List}
use Rattle.jb_disk.specs.Fuse.{disk_of}
use Rattle.jb_disk.specs.Image.{Image}
use Rattle.jb_disk.specs.Throughout.{AllHave}
use Rattle.jb_disk.specs.declared.disk.Disk.{Ghosts}
use Rattle.jb_disk.specs.declared.fuse.FuseDisk.{FuseDisk}
use Rattle.jb_handle.specs.declared.shape.Shape.{Shape}
use Rattle.jb_handle.specs.declared.stopped.Stopped.{Stopped}
use Rattle.jb_book.specs.Origin.{Begun}
use Rattle.jb_book.specs.Since.{HasFirst}
use Rattle.jb_journal.specs.Notes.{Known, Stop, committed_by}
use Rattle.jb_journal.specs.Run.{RanOn}
use Rattle.jb_journal.specs.RunFaults.{IsNotRun}
use Rattle.jb_journal.specs.Start.{started_on}
use Rattle.jb_journal.specs.declared.fault.RunFault.{RunFault}
use Rattle.jb_journal.specs.declared.fault.RunFault.TheVariants.{Open, Memory, NoThread, Accounts}
use Rattle.jb_journal.specs.declared.not_run.NotRun.{NotRun}
use Rattle.jb_journal.specs.declared.options.Commits.{Commits}
use Rattle.jb_journal.specs.declared.ran.Ran.{Ran}

-- what is left of a run, with this fuse for the disk that was inside it
abbrev pub over_fuse : {T D : Type 0} → FuseDisk D → Ran T D → Ran T (FuseDisk D)
over_fuse fuse ran = record {
  disk = fuse;
  answers = ran.answers;
  handles = ran.handles;
  settled = ran.settled;
  changes = ran.changes;
  trail = ran.trail;
  in_log = ran.in_log;
  commit = ran.commit;
  checkpoint = ran.checkpoint;
}

-- the same of one that has no answer
abbrev pub not_over_fuse : {T D : Type 0} → FuseDisk D → NotRun T D → NotRun T (FuseDisk D)
not_over_fuse fuse back = record { disk = fuse; answers = back.answers; fault = back.fault }

-- what a crash leaves of the disk now, it may have left at a moment since any earlier one
abbrev pub CountsNow : {D : Type 0} → Ghosts D → D → Type 0
CountsNow G last =
    (t : ℕ) (c : Image) → G.honest last → t ≤ G.moment last → G.may_leave last c → G.left_since last t c

-- each image that a crash leaves of the disk now is recovered to the homes of the start with the first of these
-- handles, at least this many, up to the end of one of the groups into which they are cut at these bounds
abbrev pub LeavesFirst : {D : Type 0} → Ghosts D → Begun → List Stopped → List ℕ → D → ℕ → Type 0
LeavesFirst G b given bounds last least = AllHave G.may_leave last (HasFirst b given bounds least)

-- at least those that a client knew to be committed at any of its notes
abbrev pub LeavesKnown : {D : Type 0} → Ghosts D → Begun → List Stopped → List ℕ → D → Known → Type 0
LeavesKnown G b given bounds last knew = All (λ n. LeavesFirst G b given bounds last (committed_by n)) knew.notes

-- What a fuse has left of a run. Over the fuse it was a run as any is (`RanOn`), and the disk is the one that is inside
-- the fuse then. If that is honest, what a crash leaves of it now recovers to the first groups of the handles that the
-- journal was given, perhaps none, and to all that any client knew to be committed
pub record IsCutRun {T D : Type 0} (F : Ghosts (FuseDisk D)) (G : Ghosts D) (disk : D)
    (may : Begun → Shape → Type 0 → ℕ → ℕ → List Stop → Known → T → Type 0) (workers : ℕ) (ran : Ran T D)
    : Type 0 where
  pub fuse : FuseDisk D
  pub begun : disk_of fuse ≡ disk
  pub last : FuseDisk D
  pub over : RanOn F fuse (started_on F fuse) (may (started_on F fuse)) workers (over_fuse last ran)
  pub same_disk : ran.disk ≡ disk_of last
  pub now : G.honest ran.disk
      → LeavesFirst G (started_on F fuse) over.all.ends.since.given over.all.ends.since.bounds ran.disk 0
  pub known : G.honest ran.disk
      → All (LeavesKnown G (started_on F fuse) over.all.ends.since.given over.all.ends.since.bounds ran.disk)
      over.all.known

-- what a crash leaves now of the disk of a run that has no answer for this: the first of some handles; where the
-- journal was not opened no clause of a run says it
abbrev pub LeavesSome : {D : Type 0} → Ghosts D → Begun → D → RunFault → Type 0
LeavesSome G b last (Open why) = Unit {0}
LeavesSome G b last Memory = (given : List Stopped) × (bounds : List ℕ) × LeavesFirst G b given bounds last 0
LeavesSome G b last NoThread = (given : List Stopped) × (bounds : List ℕ) × LeavesFirst G b given bounds last 0
LeavesSome G b last Accounts = (given : List Stopped) × (bounds : List ℕ) × LeavesFirst G b given bounds last 0

-- What a fuse has left of a run that has no answer: over the fuse it was refused as any is (`IsNotRun`), and the disk
-- is the one that is inside the fuse then. If that is honest, what a crash leaves of it now recovers to some handles,
-- perhaps none, unless the journal was not opened
pub record IsCutNotRun {T D : Type 0} (F : Ghosts (FuseDisk D)) (G : Ghosts D) (disk : D) (commits : Commits)
    (may : Begun → Shape → Type 0 → ℕ → ℕ → List Stop → Known → T → Type 0) (workers : ℕ) (back : NotRun T D)
    : Type 0 where
  pub fuse : FuseDisk D
  pub begun : disk_of fuse ≡ disk
  pub last : FuseDisk D
  pub over : IsNotRun F fuse (started_on F fuse) commits (may (started_on F fuse)) workers (not_over_fuse last back)
  pub same_disk : back.disk ≡ disk_of last
  pub now : G.honest back.disk → LeavesSome G (started_on F fuse) back.disk back.fault
