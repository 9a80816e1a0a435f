-- What a footprint of handles keeps.
use Rattle.std.specs.Prelude.{ℕ, List}
use Rattle.std.specs.Ordering.{nat_cmp}
use Rattle.std.specs.Coded.{Coded, coded_ℕ}
use Rattle.std.specs.FinSet as set
use Rattle.jb_handle.specs.declared.stopped.Stopped.{Stopped}
use Rattle.jb_handle.specs.Words.{touched, copies, frees}
use Rattle.jb_cost.specs.declared.geometry.Geometry.{Geometry}

-- sets with the same homes are equal, as a Model's value requires
abbrev pub set_code : Coded (set.FinSet nat_cmp)
set_code = set.code coded_ℕ

-- the homes that handles touch, how many of them have a copy as their last word and how many are free, and the geometry
pub record Covered : Type 0 where
  pub geometry : Geometry
  pub homes : set.FinSet nat_cmp
  pub copies : ℕ
  pub frees : ℕ

-- the footprint of a list of handles
unfoldable pub covered_by : Geometry → List Stopped → Covered
covered_by g hs = record { geometry = g; homes = touched hs; copies = set.len (copies hs); frees = set.len (frees hs) }
