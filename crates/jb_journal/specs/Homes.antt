-- What a read of a home answers where no journal is open.
use Rattle.std.specs.Prelude.{◌≡◌, ℕ, List, Result, Ok, Err}
use Rattle.jb_disk.specs.Image.{Image}
use Rattle.jb_recover.specs.Peeks.{PeekFaults, Peeks}
use Rattle.jb_journal.specs.declared.fault.HomeFault.{HomeFault}
use Rattle.jb_journal.specs.declared.fault.HomeFault.TheVariants.{Length, Peek}

-- what the answer says of the home of an image, and of the buffer: what a peek says, where the buffer has the length of
-- one block
abbrev pub ReadsWhole : ℕ → ℕ → Image → ℕ → List ℕ → List ℕ → Result Unit HomeFault → Type 0
ReadsWhole size count c home before after (Ok unit) = Peeks size count c home before after (Ok unit)
ReadsWhole size count c home before after (Err Length) = after ≡ before
ReadsWhole size count c home before after (Err (Peek fault)) = Peeks size count c home before after (Err fault)

-- how the count of faults changes: only a failed call of the disk raises it
abbrev pub HomeFaults : Result Unit HomeFault → ℕ → ℕ → Type 0
HomeFaults (Ok unit) old new = new ≡ old
HomeFaults (Err Length) old new = new ≡ old
HomeFaults (Err (Peek fault)) old new = PeekFaults {T = Unit} (Err fault) old new
