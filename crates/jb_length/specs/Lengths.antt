-- Which handles a new journal of some length takes, whatever blocks they touch.
use Rattle.std.specs.Prelude.{◌+◌, ◌-◌, ◌/◌, ◌<◌, ◌≤◌, ◌^◌, ℕ, Bool, max}
use Rattle.std.specs.Int.{div_ceil}
use Rattle.jb_block.specs.Capacity.{tags_in}

-- a journal may have this many blocks
abbrev pub MayBeLength : ℕ → Type 0
MayBeLength journal = (9 ≤ journal) × (journal < 2 ^ 31)

-- the most log blocks of a transaction of a new journal of this many blocks: a quarter of its log, and at least 3
abbrev pub new_limit : ℕ → ℕ
new_limit journal = max 3 ((journal - 1) / 4)

-- the most log blocks that a handle of so many credits takes in blocks of this size: a commit block, a copy for each of
-- them, and the descriptors of these
abbrev pub handle_blocks : Bool → ℕ → ℕ → ℕ
handle_blocks wide size credits = 1 + credits + div_ceil credits (tags_in wide size)

-- each handle of so many credits fits in a transaction of a new journal of this many blocks
abbrev pub TakesHandles : Bool → ℕ → ℕ → ℕ → Type 0
TakesHandles wide size journal credits = handle_blocks wide size credits ≤ new_limit journal

-- the shortest journal that takes handles of so many credits has this many blocks
pub record IsLeastLength (wide : Bool) (size credits least : ℕ) : Type 0 where
  pub length : MayBeLength least
  pub takes : TakesHandles wide size least credits
  pub shortest : (journal : ℕ) → MayBeLength journal → TakesHandles wide size journal credits → least ≤ journal
