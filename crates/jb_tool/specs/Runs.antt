-- What a worker answers: which of its handles stopped, and which one was refused.
use Rattle.std.specs.Prelude.{◌≡◌, ℕ, ◌+◌, ◌*◌, ◌<◌, ◌≤◌, List, [], ◌∷◌, ◌++◌, length, get_or, Option, Some, None}
use Rattle.std.specs.Prelude.{IfSome, Result, Ok, Err}
use Rattle.std.specs.FinMap as map
use Rattle.jb_handle.specs.declared.shape.Shape.{Shape}
use Rattle.jb_handle.specs.declared.stopped.Stopped.{Stopped}
use Rattle.jb_journal.specs.Notes.{Stop}
use Rattle.jb_tool.specs.RefusedHandle.{IsRefusedFor}
use Rattle.jb_tool.specs.declared.loading.fault.QueueHandleFault.{QueueHandleFault}
use Rattle.jb_tool.specs.declared.loading.loaded.Refused.{Refused}

-- the handle at a place of the queue
abbrev pub queued_at : List Stopped → ℕ → Stopped
queued_at queue place = get_or queue place (record { ticket = 0; words = map.empty })

-- stops with the words of handles of the queue: of the one at this place, and of others, each this many places after
-- the one before
abbrev pub StepsBy : List Stopped → ℕ → ℕ → List Stop → Type 0
StepsBy queue step from [] = Unit {0}
StepsBy queue step from (s ∷ ss) =
    (from < length queue) × (s.1 ≡ (queued_at queue from).words) × StepsBy queue step (from + step) ss

-- of a queue of this many handles, that of this place was refused; or there is none at this place
abbrev pub EndsAt : ℕ → ℕ → Option Refused → Type 0
EndsAt count place None = count ≤ place
EndsAt count place (Some r) = (r.handle ≡ place) × (place < count)

-- the first of a worker's handles stopped, up to the one that was refused for what its fault says, or all of them
pub record IsRun (shape : Shape) (queue : List Stopped) (step from : ℕ) (stops : List Stop) (refused : Option Refused)
    : Type 0 where
  pub steps : StepsBy queue step from stops
  pub ends : EndsAt (length queue) (from + step * length stops) refused
  pub why : IfSome refused (λ r. IsRefusedFor shape (queued_at queue r.handle).words r.fault)

-- the handle at a place of the queue was run: it stopped with its words, after these, or it was refused for what its
-- fault says, and none stopped
abbrev pub RunsAt : Shape → List Stopped → ℕ → List Stop → List Stop → Result ℕ QueueHandleFault → Type 0
RunsAt shape queue at old new (Ok ticket) = new ≡ old ++ (ticket, (queued_at queue at).words) ∷ []
RunsAt shape queue at old new (Err fault) = (new ≡ old) × IsRefusedFor shape (queued_at queue at).words fault
