-- Which calls were made of a disk.
use Rattle.std.specs.Prelude.{◌≡◌, ◌≤◌, ℕ, suc, Bool}
use Rattle.jb_disk.specs.OneCall.{Called}

module _ {D : Type 0} (own : Called → D → D → Bool → Type 0) (is_first : D → Type 0) where
  -- this many calls of a disk, whatever each of them answered, lead from a first one to this one
  pub data Made : ℕ → D → Type 0 where
    none : (first : D) → is_first first → Made 0 first
    one : (n : ℕ) (before after : D) (call : Called) (ok : Bool) → Made n before → own call before after ok
        → Made (suc n) after

  -- some number of calls do
  abbrev pub WereMade : D → Type 0
  WereMade disk = (n : ℕ) × Made n disk
