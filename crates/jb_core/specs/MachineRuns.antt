-- Runs of the machine.
use Rattle.std.specs.Prelude.{◌≡◌, true, [], ◌∷◌}
use Rattle.jb_block.specs.Size.{bytes_of}
use Rattle.jb_block.specs.Capacity.{entries_in, tags_in}
use Rattle.jb_block.specs.Width.{is_wide}
use Rattle.jb_handle.specs.declared.shape.Shape.{Shape}
use Rattle.jb_core.specs.Machine.{Machine}
use Rattle.jb_cost.specs.Credits.{IsMost}
use Rattle.jb_core.specs.Steps.{MachineSteps}
use Rattle.jb_core.specs.Lives.{EventLog}

-- a machine that is up and has done nothing, in the journal of a shape
pub record IsNewMachine (shape : Shape) (m : Machine) : Type 0 where
  pub same_shape : m.shape ≡ shape
  pub tags : m.geometry.t ≡ tags_in (is_wide shape.width) (bytes_of shape.bs)
  pub entries : m.geometry.r ≡ entries_in (is_wide shape.width) (bytes_of shape.bs)
  pub most : IsMost m.geometry shape.limit m.most
  pub up : m.up ≡ true
  pub handles : m.handles ≡ []
  pub queue : m.queue ≡ []
  pub taken : m.taken ≡ []
  pub settled : m.settled ≡ []
  pub earlier : m.earlier ≡ 0
  pub checkpointed : m.checkpointed ≡ 0
  pub next : m.next ≡ 0
  pub credits : m.credits ≡ []

-- these events, with these answers, lead from the machine's start to it; the newest is first
abbrev pub RanFromStart : Shape → EventLog → Machine → Type 0
RanFromStart shape [] m = IsNewMachine shape m
RanFromStart shape (last ∷ earlier) m =
    (before : Machine) × RanFromStart shape earlier before × MachineSteps last.0 before last.1 m
