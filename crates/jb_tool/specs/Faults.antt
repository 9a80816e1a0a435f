-- The faults of a journal and of its handles, as a load reports them.
use Rattle.std.specs.Prelude.{Option}
use Rattle.jb_disk.specs.declared.failure.Failure.{Failure}
use Rattle.jb_journal.specs.declared.fault.HandleFault.{HandleFault as ChangeFault}
use Rattle.jb_journal.specs.declared.fault.HandleFault.TheVariants as change
use Rattle.jb_journal.specs.declared.fault.RunFault.{RunFault}
use Rattle.jb_journal.specs.declared.fault.RunFault.TheVariants as run
use Rattle.jb_handle.specs.declared.changes.TouchFault.{TouchFault}
use Rattle.jb_handle.specs.declared.changes.TouchFault.TheVariants as touch
use Rattle.jb_book.specs.declared.fault.BeginFault.{BeginFault}
use Rattle.jb_book.specs.declared.fault.BeginFault.TheVariants as begin
use Rattle.jb_tool.specs.declared.loading.fault.QueueHandleFault.{QueueHandleFault}
use Rattle.jb_tool.specs.declared.loading.fault.QueueHandleFault.TheVariants.{Aborted, Closed, Busy, TooManyCredits}
use Rattle.jb_tool.specs.declared.loading.fault.QueueHandleFault.TheVariants.{Full, NoCredit, OutOfRange, Length}
use Rattle.jb_tool.specs.declared.loading.fault.QueueHandleFault.TheVariants.{NotOpen, Memory}
use Rattle.jb_tool.specs.declared.loading.fault.LoadFault.{LoadFault}
use Rattle.jb_tool.specs.declared.loading.fault.LoadFault.TheVariants as load

-- why a handle was not begun
abbrev pub not_begun : BeginFault → QueueHandleFault
not_begun begin.Aborted = Aborted
not_begun begin.Closed = Closed
not_begun begin.Busy = Busy
not_begun (begin.TooManyCredits most) = TooManyCredits most
not_begun (begin.Full reserved) = Full reserved
not_begun begin.Memory = Memory

-- why a word was not written
abbrev pub not_touched : TouchFault → QueueHandleFault
not_touched (touch.NoCredit credits) = NoCredit credits
not_touched (touch.OutOfRange home) = OutOfRange home
not_touched touch.Length = Length
not_touched touch.Memory = Memory

-- why a handle of the queue did not stop
abbrev pub not_stopped : ChangeFault TouchFault → QueueHandleFault
not_stopped (change.Begin fault) = not_begun fault
not_stopped (change.Refused fault) = not_touched fault
not_stopped change.Aborted = Aborted
not_stopped change.NotOpen = NotOpen
not_stopped change.Memory = Memory

-- why a queue was not loaded, where its journal was not run or has no answer, and its disk tells this of its last
-- failed call; for want of a thread a load has always one
abbrev pub not_run : Option Failure → RunFault → LoadFault
not_run told (run.Open fault) = load.Open fault told
not_run told run.Memory = load.Memory
not_run told run.NoThread = load.Accounts
not_run told run.Accounts = load.Accounts
