-- How large a list of handles may be.
use Rattle.std.specs.Prelude.{ℕ, ◌+◌, ◌^◌, ◌≤◌, List}
use Rattle.std.specs.List.{sum_by}
use Rattle.std.specs.FinMap as map
use Rattle.jb_handle.specs.declared.stopped.Stopped.{Stopped}

-- the handles, and the homes that each touches, added up
abbrev pub weight : List Stopped → ℕ
weight hs = sum_by (λ h. map.len h.words + 1) hs

-- the size up to which a list of handles is accepted
abbrev pub IsWithinSize : List Stopped → Type 0
IsWithinSize hs = weight hs ≤ 2 ^ 62
