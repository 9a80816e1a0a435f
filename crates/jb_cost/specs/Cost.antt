-- The log blocks that a list of handles takes as one group.
use Rattle.std.specs.Prelude.{ℕ, ◌+◌, List, IsTrue}
use Rattle.std.specs.List.{All}
use Rattle.std.specs.FinMap as map
use Rattle.std.specs.Int.{div_ceil}
use Rattle.std.specs.FinSet as set
use Rattle.jb_handle.specs.declared.stopped.Stopped.{Stopped}
use Rattle.jb_handle.specs.Word.{WordMap, is_copy}
use Rattle.jb_handle.specs.Words.{copies, frees}
use Rattle.jb_cost.specs.declared.geometry.Geometry.{Geometry}

-- the blocks of a group of this many copies and this many frees: the commit block, the copies, the descriptors, the
-- revoke blocks
abbrev pub blocks_of : Geometry → ℕ → ℕ → ℕ
blocks_of g copies frees = 1 + copies + div_ceil copies g.t + div_ceil frees g.r

-- the blocks of the handles as one group
abbrev pub cost : Geometry → List Stopped → ℕ
cost g hs = blocks_of g (set.len (copies hs)) (set.len (frees hs))

-- the blocks of a handle whose credits are all copies
abbrev pub worst_cost_of : Geometry → ℕ → ℕ
worst_cost_of g credits = 1 + credits + div_ceil credits g.t

-- each word is a copy
abbrev pub AreCopies : WordMap → Type 0
AreCopies words = All (λ e. IsTrue (is_copy e.1)) (map.entries words)
