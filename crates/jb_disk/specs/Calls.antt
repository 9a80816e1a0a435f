-- The list of writes and syncs that a disk in memory keeps, as its history.
use Rattle.std.specs.Prelude.{ℕ, List, map, reverse, Vec}
use Rattle.std.specs.declared.alloc.Global.{Global}
use Rattle.jb_disk.specs.Image.{Image}
use Rattle.jb_disk.specs.History.{HistoryStep, Wrote, Synced}
use Rattle.jb_disk.specs.declared.memory.Call.{Call}
use Rattle.jb_disk.specs.declared.memory.Call.TheVariants.{Write, Sync}

-- the step of one call
abbrev pub history_step : Call → HistoryStep
history_step (Write place bytes) = Wrote place bytes.items
history_step Sync = Synced

-- the steps of these calls, in their order
abbrev pub steps_of : List Call → List HistoryStep
steps_of calls = reverse (map history_step calls)

-- the blocks of a list of buffers
abbrev pub image_of : List (Vec ℕ Global) → Image
image_of blocks = map (λ b. b.items) blocks
