-- The kinds of step on a board: what each does to the view of its seat, and what it answers.
use Rattle.std.specs.Prelude.{◌≡◌, ℕ, ◌≤◌, max}
use Rattle.atomic_table.specs.Table.{Me, Step}
use Rattle.jb_board.specs.declared.front.Front.{Front}
use Rattle.jb_board.specs.Front.{front}

-- A count was read: the view takes it, and the counts above it are at least as high.

-- the view once it has read the count of settled tickets
abbrev pub saw_settled : Front → ℕ → Front
saw_settled v found = front found (max v.taken found) (max v.stopped found)

-- the view once it has read the count of taken ones
abbrev pub saw_taken : Front → ℕ → Front
saw_taken v found = front v.settled found (max v.stopped found)

-- the view once it has read the count of stopped ones
abbrev pub saw_stopped : Front → ℕ → Front
saw_stopped v found = front v.settled v.taken found

-- A count was raised: the view's is at least so high.

-- the view once it has raised the count of settled tickets
abbrev pub raised_settled : Front → ℕ → Front
raised_settled v count = front (max v.settled count) v.taken v.stopped

-- the view once it has raised the count of taken ones
abbrev pub raised_taken : Front → ℕ → Front
raised_taken v count = front v.settled (max v.taken count) v.stopped

-- the view once it has raised the count of stopped ones
abbrev pub raised_stopped : Front → ℕ → Front
raised_stopped v count = front v.settled v.taken (max v.stopped count)

-- the relation of a step: the step, the seat before, the number found in the word, and the seat after
abbrev pub StepRelation : Type 1
StepRelation = Step (Unit {0}) → Me (Unit {0}) Front → ℕ → Me (Unit {0}) Front → Type 0

-- a new seat has seen nothing
abbrev pub Enters : StepRelation
Enters step me found after = after.0 ≡ front 0 0 0

-- a seat reads the count of settled tickets
abbrev pub SeesSettled : StepRelation
SeesSettled step me found after = (me.0.settled ≤ found) × (after ≡ (saw_settled me.0 found, me.1))

-- a seat reads the count of taken ones
abbrev pub SeesTaken : StepRelation
SeesTaken step me found after = (me.0.taken ≤ found) × (after ≡ (saw_taken me.0 found, me.1))

-- a seat reads the count of stopped ones
abbrev pub SeesStopped : StepRelation
SeesStopped step me found after = (me.0.stopped ≤ found) × (after ≡ (saw_stopped me.0 found, me.1))

-- a seat raises the count of settled tickets
abbrev pub RaisesSettled : StepRelation
RaisesSettled step me found after = after ≡ (raised_settled me.0 step.first, me.1)

-- a seat raises the count of taken ones
abbrev pub RaisesTaken : StepRelation
RaisesTaken step me found after = after ≡ (raised_taken me.0 step.first, me.1)

-- a seat raises the count of stopped ones
abbrev pub RaisesStopped : StepRelation
RaisesStopped step me found after = after ≡ (raised_stopped me.0 step.first, me.1)
