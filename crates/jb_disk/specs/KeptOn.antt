-- What is kept and counted, and what reads leave, said by the record of the disk.
use Rattle.std.specs.Prelude.{ℕ}
use Rattle.jb_disk.specs.Kept.{IsDiskKept, OnlyReads}
use Rattle.jb_disk.specs.declared.disk.Disk.{Ghosts}

-- the size of the blocks and their number stay, a disk that is honest then was so before, and the counts of faults
-- before and then are as told
abbrev pub KeptOn : {D : Type 0} → Ghosts D → (ℕ → ℕ → Type 0) → D → D → Type 0
KeptOn G counts old new = IsDiskKept G.size G.count G.faults G.honest G.may_go_on G.well_asked counts old new

-- a run of reads made nothing durable, and no write or sync failed in it
abbrev pub ReadsOn : {D : Type 0} → Ghosts D → D → D → Type 0
ReadsOn G old new = OnlyReads G.may_leave G.may_go_on old new
