-- The best start of a group that ends with the last handle, and the least prices by which it is found. Here `c i` is
-- what the handles from i on cost as one group, `ps` has the price of each start, and `limit` is the most that a group
-- may cost.
use Rattle.std.specs.Prelude.{◌≡◌, ℕ, ◌+◌, ◌<◌, ◌≤◌, nat_lt, if◌then◌else◌, List, length, slice_index_or, Option, Some}
use Rattle.std.specs.Prelude.{None}
use Rattle.jb_cost.specs.declared.stretch.PricedStart.{PricedStart}
use Rattle.jb_cost.specs.declared.stretch.Stretch.{Stretch}
use Rattle.jb_cost.specs.declared.group_start.GroupStart.{GroupStart}
use Rattle.jb_cost.specs.declared.owned.Owned.{Owned}
use Rattle.jb_cost.specs.Cut.{price}
use Rattle.jb_cost.specs.LastTouch.{IsIdle, owned_at}

-- a start with its price, if it has one
abbrev pub priced_of : ℕ → Option ℕ → Option PricedStart
priced_of from None = None
priced_of from (Some p) = Some (record { from = from; price = p })

-- the one with the lesser price, the earlier one where the prices are equal
abbrev pub lesser_of : Option PricedStart → Option PricedStart → Option PricedStart
lesser_of None later = later
lesser_of (Some first) None = Some first
lesser_of (Some first) (Some later) = if nat_lt later.price first.price then Some later else Some first

-- a start whose group costs so much, if there is one
abbrev pub found_start : Option PricedStart → ℕ → Option GroupStart
found_start None cost = None
found_start (Some s) cost = Some (record { from = s.from; price = s.price; cost = cost })

-- the same start, where the group costs so much more
abbrev pub dearer_by : ℕ → Option GroupStart → Option GroupStart
dearer_by more None = None
dearer_by more (Some s) = Some (record { from = s.from; price = s.price; cost = s.cost + more })

-- the better of the best start so far and an earlier one; the earlier one where they are equal
abbrev pub better_of : Option GroupStart → Option GroupStart → Option GroupStart
better_of best None = best
better_of None (Some s) = Some s
better_of (Some best) (Some s) = if nat_lt (best.price + best.cost) (s.price + s.cost) then Some best else Some s

module _ (ps : List (Option ℕ)) (low high : ℕ) where
  -- no start from low up to high has a smaller price, and none before it has the same
  pub record IsLeastPrice (s : PricedStart) : Type 0 where
    pub above : low ≤ s.from
    pub below : s.from < high
    pub is : price ps s.from ≡ Some s.price
    pub least : (i p : ℕ) → low ≤ i → i < high → price ps i ≡ Some p → s.price ≤ p
    pub first : (i p : ℕ) → low ≤ i → i < s.from → price ps i ≡ Some p → s.price < p

  -- the least price from low up to high, or that no start there has one
  abbrev pub LeastPrice : Option PricedStart → Type 0
  LeastPrice None = (i p : ℕ) → low ≤ i → i < high → price ps i ≡ Some p → ⊥
  LeastPrice (Some s) = IsLeastPrice s

module _ (c : ℕ → ℕ) (limit : ℕ) (ps : List (Option ℕ)) (low end : ℕ) where
  -- the group from this start fits, no start from low on has a smaller sum, and none before it has the same
  pub record IsBestStart (s : GroupStart) : Type 0 where
    pub above : low ≤ s.from
    pub before : s.from < end
    pub fits : c s.from ≤ limit
    pub is : price ps s.from ≡ Some s.price
    pub costs : s.cost ≡ c s.from
    pub least : (i p : ℕ) → low ≤ i → i < end → c i ≤ limit → price ps i ≡ Some p → s.price + s.cost ≤ p + c i
    pub first : (i p : ℕ) → low ≤ i → i < s.from → c i ≤ limit → price ps i ≡ Some p → s.price + s.cost < p + c i

  -- the best start from low on, or that no start there has a price and fits
  abbrev pub BestStart : Option GroupStart → Type 0
  BestStart None = (i p : ℕ) → low ≤ i → i < end → c i ≤ limit → price ps i ≡ Some p → ⊥
  BestStart (Some s) = IsBestStart s

-- the stretch that ends with handle k
abbrev pub stretch_at : List Stretch → ℕ → Stretch
stretch_at ss k = slice_index_or ss k (record { from = 0; least = None })

-- the handles from one up to another own nothing
abbrev pub AreIdle : List Owned → ℕ → ℕ → Type 0
AreIdle os from end = (j : ℕ) → from ≤ j → j < end → IsIdle (owned_at os j)

-- each stretch begins at or before its handle, and goes back over idle handles alone
abbrev pub GoBack : List Owned → List Stretch → Type 0
GoBack os ss = (k : ℕ) → k < length os → ((stretch_at ss k).from ≤ k) × AreIdle os (stretch_at ss k).from k

-- each stretch of the first n has the least price of its starts
abbrev pub AreLeast : List (Option ℕ) → List Stretch → ℕ → Type 0
AreLeast ps ss n = (k : ℕ) → k < n → LeastPrice ps (stretch_at ss k).from (k + 1) (stretch_at ss k).least
