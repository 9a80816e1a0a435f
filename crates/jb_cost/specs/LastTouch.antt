-- Which handle touched each home last, and how many homes each handle owns by that.
use Rattle.std.specs.Prelude.{◌≡◌, ℕ, ◌+◌, ◌<◌, ◌≤◌, Bool, ◌&&◌, not, cond, nat_le, if◌then◌else◌, List, length, drop}
use Rattle.std.specs.Prelude.{slice_index_or, Option, Some, None, unwrap_or}
use Rattle.std.specs.Option.{option_map}
use Rattle.std.specs.List.{sum_by}
use Rattle.std.specs.Ordering.{nat_cmp}
use Rattle.std.specs.BTreeMap.{BTreeMap, IsOrdered, get, values}
use Rattle.jb_handle.specs.declared.word.Word.{Word}
use Rattle.jb_handle.specs.Word.{is_copy}
use Rattle.jb_cost.specs.declared.geometry.Geometry.{Geometry}
use Rattle.jb_cost.specs.declared.owned.Touch.{Touch}
use Rattle.jb_cost.specs.declared.owned.Owned.{Owned}
use Rattle.jb_cost.specs.Cost.{blocks_of}

-- what handle k owns
abbrev pub owned_at : List Owned → ℕ → Owned
owned_at os k = slice_index_or os k (record { copies = 0; frees = 0 })

-- a handle that owns no home
abbrev pub IsIdle : Owned → Type 0
IsIdle o = (o.copies ≡ 0) × (o.frees ≡ 0)

-- a handle owns no more than it did
abbrev pub OwnsNoMore : Owned → Owned → Type 0
OwnsNoMore was now = (now.copies ≤ was.copies) × (now.frees ≤ was.frees)

-- a count of the homes that the handles from i on own
abbrev pub owned_from : (Owned → ℕ) → List Owned → ℕ → ℕ
owned_from count os i = sum_by count (drop i os)

-- the homes with a copy that a handle owns, and those that it freed
abbrev pub copies_of : Owned → ℕ
copies_of o = o.copies

-- the homes that a handle freed and still owns
abbrev pub frees_of : Owned → ℕ
frees_of o = o.frees

-- the homes that all handles own
abbrev pub all_owned : List Owned → ℕ
all_owned os = owned_from copies_of os 0 + owned_from frees_of os 0

-- what the handles from i on cost as one group, by the homes that they own
abbrev pub owned_cost : Geometry → List Owned → ℕ → ℕ
owned_cost g os i = blocks_of g (owned_from copies_of os i) (owned_from frees_of os i)

-- whether a touch is one of the handles from i on, and of a kind: the kind is a test of whether it left a copy
abbrev pub is_since : (Bool → Bool) → ℕ → Touch → Bool
is_since kind i t = nat_le i t.handle && kind t.copy

-- 1 for such a touch, and 0 for another
abbrev pub counts_since : (Bool → Bool) → ℕ → Touch → ℕ
counts_since kind i t = cond (is_since kind i t) 1 0

-- the kind of a touch that left a copy
abbrev pub left_copy : Bool → Bool
left_copy copy = copy

-- for each i, the handles from i on own the homes that one of them touched last
abbrev pub CountsLastTouches : (Owned → ℕ) → (Bool → Bool) → List Owned → BTreeMap ℕ Touch → Type 0
CountsLastTouches count kind os last = (i : ℕ) → owned_from count os i ≡ sum_by (counts_since kind i) (values last)

-- each home is owned by the handle that touched it last
pub record AreOwners (os : List Owned) (last : BTreeMap ℕ Touch) : Type 0 where
  pub ordered : IsOrdered nat_cmp last
  pub below : (q : ℕ) (t : Touch) → get nat_cmp last q ≡ Some t → t.handle < length os
  pub copies : CountsLastTouches copies_of left_copy os last
  pub frees : CountsLastTouches frees_of not os last

-- the handle of a touch owns a home that it left so
pub record Owns (os : List Owned) (t : Touch) : Type 0 where
  pub inside : t.handle < length os
  pub copies : (if t.copy then 1 else 0) ≤ (owned_at os t.handle).copies
  pub frees : (if t.copy then 0 else 1) ≤ (owned_at os t.handle).frees

-- for each i, the handles from i on own one home of a kind less, if one of them had touched it last
abbrev pub Lose : (Owned → ℕ) → (Bool → Bool) → Option Touch → List Owned → List Owned → Type 0
Lose count kind before os now =
    (i : ℕ) → owned_from count now i + unwrap_or (option_map (counts_since kind i) before) 0 ≡ owned_from count os i

-- the last touch of a home, once handle n has this word there
abbrev pub later_touch : ℕ → Option Word → Option Touch → Option Touch
later_touch n None before = before
later_touch n (Some w) before = Some (record { handle = n; copy = is_copy w })

-- whether one of the handles from i on left a copy at a home, if one touches it
abbrev pub left_since : ℕ → Option Touch → Option Bool
left_since i None = None
left_since i (Some t) = cond (nat_le i t.handle) (Some t.copy) None
