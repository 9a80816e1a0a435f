-- What is known of a handle that was refused.
use Rattle.std.specs.Prelude.{◌≡◌, ◌≢◌, ℕ, ◌<◌, ◌≤◌, length}
use Rattle.std.specs.List.{Any}
use Rattle.std.specs.FinMap as map
use Rattle.jb_block.specs.Size.{bytes_of}
use Rattle.jb_handle.specs.Word.{WordMap}
use Rattle.jb_handle.specs.declared.shape.Shape.{Shape}
use Rattle.jb_handle.specs.declared.word.Word.{Word}
use Rattle.jb_handle.specs.declared.word.Word.TheVariants.{Copy, Free}
use Rattle.jb_tool.specs.declared.loading.fault.QueueHandleFault.{QueueHandleFault}
use Rattle.jb_tool.specs.declared.loading.fault.QueueHandleFault.TheVariants.{Aborted, Closed, Busy, TooManyCredits}
use Rattle.jb_tool.specs.declared.loading.fault.QueueHandleFault.TheVariants.{Full, NoCredit, OutOfRange, Length}
use Rattle.jb_tool.specs.declared.loading.fault.QueueHandleFault.TheVariants.{NotOpen, Memory}

-- a copy that is shorter or longer than a block
abbrev pub IsMisfit : Shape → Word → Type 0
IsMisfit shape (Copy bytes) = length bytes ≢ bytes_of shape.bs
IsMisfit shape Free = ⊥

-- A handle with these words may be refused for this in a journal of this shape. Of what the desk refuses nothing more
-- is known than that too many credits are more than the most
abbrev pub IsRefusedFor : Shape → WordMap → QueueHandleFault → Type 0
IsRefusedFor shape words Aborted = Unit {0}
IsRefusedFor shape words Closed = Unit {0}
IsRefusedFor shape words Busy = Unit {0}
IsRefusedFor shape words (TooManyCredits most) = most < map.len words
IsRefusedFor shape words (Full reserved) = Unit {0}
IsRefusedFor shape words (NoCredit credits) = credits < map.len words
IsRefusedFor shape words (OutOfRange home) =
    Any (λ (e : ℕ × Word). e.0 ≡ home) (map.entries words) × (shape.homes ≤ home)
IsRefusedFor shape words Length = Any (λ (e : ℕ × Word). IsMisfit shape e.1) (map.entries words)
IsRefusedFor shape words NotOpen = Unit {0}
IsRefusedFor shape words Memory = Unit {0}
