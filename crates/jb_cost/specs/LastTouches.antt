-- What the last touches of a queue's handles say: the costs of the groups that end with the last of them.
use Rattle.std.specs.Prelude.{◌≡◌, ℕ, ◌≤◌, List, length, slice_range, Option}
use Rattle.std.specs.Option.{option_map}
use Rattle.std.specs.Ordering.{nat_cmp}
use Rattle.std.specs.BTreeMap.{get}
use Rattle.jb_handle.specs.declared.stopped.Stopped.{Stopped}
use Rattle.jb_handle.specs.Word.{is_copy}
use Rattle.jb_handle.specs.Words.{word}
use Rattle.jb_cost.specs.declared.geometry.Geometry.{Geometry}
use Rattle.jb_cost.specs.declared.last_touches.LastTouches.{LastTouches}
use Rattle.jb_cost.specs.LastTouch.{AreOwners, all_owned, left_since}
use Rattle.jb_cost.specs.Spans.{FitOwned, FitPrices}

-- the homes that all handles own
abbrev pub homes_owned : LastTouches → ℕ
homes_owned t = all_owned t.owned.items

-- the parts fit one another: each home is owned by the handle that touched it last, and the shortcuts fit what the
-- handles own
pub record PartsFit (t : LastTouches) : Type 0 where
  pub owners : AreOwners t.owned.items t.last
  pub shortcuts : FitOwned t.owned.items t.shortcuts

-- the touches are those of the first n handles of a queue, and the prices those of a list
pub record TellsQueue (g : Geometry) (hs : List Stopped) (n : ℕ) (ps : List (Option ℕ)) (t : LastTouches) : Type 0 where
  pub geometry : t.geometry ≡ g
  pub number : length t.owned.items ≡ n
  pub within : n ≤ length hs
  pub follows : (i q : ℕ) → i ≤ n
      → left_since i (get nat_cmp t.last q) ≡ option_map is_copy (word (slice_range hs i n) q)
  pub prices : FitPrices ps t.owned.items t.shortcuts
