-- What a process that is killed may leave of an image that it makes.
use Rattle.std.specs.Prelude.{ℕ, ◌==◌, ◌&&◌, Bool, false, List, Result, Ok, Err}
use Rattle.jb_super.specs.Faults.{super_in}
use Rattle.jb_super.specs.Superblock.{Superblock}
use Rattle.jb_super.specs.declared.fault.SuperFault.{SuperFault}

-- what is read as a superblock is that of a journal that has had no transaction: it is clean, and the next number is
-- the first
abbrev pub is_unused_super : Result Superblock SuperFault → Bool
is_unused_super (Ok sb) = sb.start == 0 && sb.sequence == 1
is_unused_super (Err fault) = false

-- some first bytes are the superblock of such a journal
abbrev pub is_unused_front : List ℕ → Bool
is_unused_front front = is_unused_super (super_in front)
