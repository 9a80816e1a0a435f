-- How a committer and a checkpointer end.
use Rattle.std.specs.Prelude.{◌≡◌, Bool, true, false, Option, None, is_some}
use Rattle.jb_plan.specs.Batch.{Gathered}
use Rattle.jb_disk.specs.declared.disk.Disk.{Ghosts}
use Rattle.jb_book.specs.Journal.{HasNone}
use Rattle.jb_book.specs.Origin.{Begun}
use Rattle.jb_desk.specs.declared.ended.Ended.{Ended}
use Rattle.jb_desk.specs.declared.ended.Ended.TheVariants.{Shut, Aborted, Memory, Refused}

-- the desk was over
abbrev pub is_shut : Ended → Bool
is_shut (Shut over) = true
is_shut Aborted = false
is_shut Memory = false
is_shut Refused = false

-- why a committer has ended, and whether it still holds a batch
abbrev pub EndsHolding : Ended → Option Gathered → Type 0
EndsHolding (Shut over) held = held ≡ None
EndsHolding Aborted held = held ≡ None
EndsHolding Memory held = is_some held ≡ true
EndsHolding Refused held = is_some held ≡ true

-- a checkpointer ends with a `Drained`, and no group was live in its journal at some time since the start; or it says
-- that the journal has failed
abbrev pub EndsChecking : {D : Type 0} → Ghosts D → Begun → Ended → Type 0
EndsChecking G begun (Shut over) = HasNone G begun
EndsChecking G begun Aborted = Unit {0}
EndsChecking G begun Memory = ⊥
EndsChecking G begun Refused = ⊥
