-- The steps by which cuts reach an end: the best one from the starts that were tried, and the best ones to each end.
use Rattle.std.specs.Prelude.{◌≡◌, ℕ, ◌+◌, ◌*◌, ◌<◌, ◌≤◌, List, Option, Some, None, length, take, slice_index}
use Rattle.jb_handle.specs.declared.stopped.Stopped.{Stopped}
use Rattle.jb_handle.specs.Size.{weight}
use Rattle.jb_cost.specs.Cut.{price}
use Rattle.jb_cost.specs.declared.group_start.GroupStart.{GroupStart}

-- the last group of a cut: where it begins, and what the whole cut takes
pub record LastGroup : Type 0 where
  pub from : ℕ
  pub price : ℕ

-- s goes to the end from its own start, at the start's price and the group's cost
pub record Leads (c : ℕ → ℕ → ℕ) (limit : ℕ) (ps : List (Option ℕ)) (end : ℕ) (s : LastGroup) : Type 0 where
  pub before : s.from < end
  pub fits : c s.from end ≤ limit
  pub sum : (p : ℕ) × (price ps s.from ≡ Some p) × (s.price ≡ p + c s.from end)

-- no start from low on has a smaller sum, and none before its own has the same
pub record IsBest (c : ℕ → ℕ → ℕ) (limit : ℕ) (ps : List (Option ℕ)) (low end : ℕ) (s : LastGroup) : Type 0 where
  pub leads : Leads c limit ps end s
  pub least : (i p : ℕ) → low ≤ i → i < end → c i end ≤ limit → price ps i ≡ Some p → s.price ≤ p + c i end
  pub first : (i p : ℕ) → low ≤ i → i < s.from → c i end ≤ limit → price ps i ≡ Some p → s.price < p + c i end

-- the best step to the end from low on, or that no start from there leads to it
abbrev pub BestFrom : (ℕ → ℕ → ℕ) → ℕ → List (Option ℕ) → ℕ → ℕ → Option LastGroup → Type 0
BestFrom c limit ps low end None = (i p : ℕ) → low ≤ i → i < end → c i end ≤ limit → price ps i ≡ Some p → ⊥
BestFrom c limit ps low end (Some s) = IsBest c limit ps low end s

-- the step from a start that was found
abbrev pub step_from : Option GroupStart → Option LastGroup
step_from None = None
step_from (Some s) = Some (record { from = s.from; price = s.price + s.cost })

-- the step to j, by its price and by the list of starts
abbrev pub step_of : List ℕ → ℕ → Option ℕ → Option LastGroup
step_of froms j None = None
step_of froms j (Some p) = Some (record { from = slice_index froms j; price = p })

-- prices and starts are those of the best steps to the ends up to n
pub record AreSteps (c : ℕ → ℕ → ℕ) (limit : ℕ) (ps : List (Option ℕ)) (froms : List ℕ) (n : ℕ) : Type 0 where
  pub start : price ps 0 ≡ Some 0
  pub each : (j : ℕ) → 0 < j → j ≤ n → BestFrom c limit ps 0 j (step_of froms j (price ps j))

-- the price of a step, if there is one
abbrev pub price_of : Option LastGroup → Option ℕ
price_of None = None
price_of (Some s) = Some s.price

-- where a step begins, and 0 where there is none
abbrev pub from_of : Option LastGroup → ℕ
from_of None = 0
from_of (Some s) = s.from

-- each start is before its end
abbrev pub AreBefore : List ℕ → Type 0
AreBefore froms = (j : ℕ) → 0 < j → j < length froms → slice_index froms j < j

-- twice what the first j handles weigh: they cost no more, however they are cut
abbrev pub most_of : List Stopped → ℕ → ℕ
most_of hs j = 2 * weight (take j hs)

-- each price is at most w of its number of handles
abbrev pub AreWithin : (ℕ → ℕ) → List (Option ℕ) → Type 0
AreWithin w ps = (j p : ℕ) → j < length ps → price ps j ≡ Some p → p ≤ w j

-- the table of the best steps to the ends up to n
pub record IsTable (c : ℕ → ℕ → ℕ) (limit : ℕ) (w : ℕ → ℕ) (n : ℕ) (ps : List (Option ℕ)) (froms : List ℕ)
    : Type 0 where
  pub steps : AreSteps c limit ps froms n
  pub number : length ps ≡ n + 1
  pub starts : length froms ≡ n + 1
  pub back : AreBefore froms
  pub within : AreWithin w ps
