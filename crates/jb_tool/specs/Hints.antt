-- What a second line is about after the lines of a load on standard error: the first of them that says why.
use Rattle.std.specs.Prelude.{ℕ, Option, Some, None}
use Rattle.jb_args.specs.declared.hint.Hint.{Hint}
use Rattle.jb_args.specs.declared.hint.Hint.TheVariants as hint
use Rattle.jb_desk.specs.declared.ended.Ended.{Ended}
use Rattle.jb_disk.specs.declared.failure.Failure.{Failure}
use Rattle.jb_desk.specs.declared.ended.Ended.TheVariants as ended
use Rattle.jb_tool.specs.declared.loading.fault.QueueHandleFault.{QueueHandleFault}
use Rattle.jb_tool.specs.declared.loading.fault.QueueHandleFault.TheVariants.{Aborted, Busy, Closed, Full, Length}
use Rattle.jb_tool.specs.declared.loading.fault.QueueHandleFault.TheVariants.{Memory, NoCredit, NotOpen, OutOfRange}
use Rattle.jb_tool.specs.declared.loading.fault.QueueHandleFault.TheVariants.{TooManyCredits}
use Rattle.jb_tool.specs.declared.loading.loaded.Loaded.{Loaded}
use Rattle.jb_tool.specs.declared.loading.loaded.Refused.{Refused}

-- a handle that found the journal stopped: a committer that had no number or no memory says why, and else the call of
-- the disk that failed
abbrev pub aborted_hint : Option Failure → Ended → Hint
aborted_hint failure ended.Refused = hint.CommitRefused
aborted_hint failure ended.Memory = hint.CommitMemory
aborted_hint failure ended.Aborted = hint.HandleAborted failure
aborted_hint failure (ended.Shut over) = hint.HandleAborted failure

-- a handle that was refused, in an image of this many home blocks, where the committer ended so; the table has no row
-- for a fault that no text has
abbrev pub handle_hint : Option Failure → ℕ → Ended → QueueHandleFault → Option Hint
handle_hint failure homes commit (TooManyCredits most) = Some hint.HandleTooManyCredits
handle_hint failure homes commit (OutOfRange home) = Some (hint.HandleOutOfRange homes)
handle_hint failure homes commit (Full reserved) = Some hint.HandleFull
handle_hint failure homes commit Memory = Some hint.HandleMemory
handle_hint failure homes commit Aborted = Some (aborted_hint failure commit)
handle_hint failure homes commit Closed = None
handle_hint failure homes commit Busy = None
handle_hint failure homes commit (NoCredit credits) = None
handle_hint failure homes commit Length = None
handle_hint failure homes commit NotOpen = None

-- a checkpointer that did not end Shut, and that no commit has stopped
abbrev pub checkpoint_hint : Option Failure → Option Ended → Option Hint
checkpoint_hint failure None = None
checkpoint_hint failure (Some (ended.Shut over)) = None
checkpoint_hint failure (Some ended.Aborted) = Some (hint.CheckpointAborted failure)
checkpoint_hint failure (Some ended.Memory) = Some hint.CheckpointMemory
checkpoint_hint failure (Some ended.Refused) = None

-- a committer that did not end Shut, and else the checkpointer
abbrev pub commit_hint : Option Failure → Ended → Option Ended → Option Hint
commit_hint failure (ended.Shut over) checkpoint = checkpoint_hint failure checkpoint
commit_hint failure ended.Aborted checkpoint = Some (hint.CommitAborted failure)
commit_hint failure ended.Memory checkpoint = Some hint.CommitMemory
commit_hint failure ended.Refused checkpoint = Some hint.CommitRefused

-- the handle that was refused, where there is one, and else the two threads
abbrev pub first_hint : Option Failure → ℕ → Ended → Option Refused → Option Hint → Option Hint
first_hint failure homes commit None ends = ends
first_hint failure homes commit (Some refused) ends = handle_hint failure homes commit refused.fault

-- what a second line is about after a load into an image of this many home blocks, whose last call that failed was
-- this one: the first of its lines that says why, where the table has a row for it
abbrev pub load_hint : Option Failure → ℕ → Loaded → Option Hint
load_hint failure homes l =
    first_hint failure homes l.commit l.refused (commit_hint failure l.commit l.checkpoint)
