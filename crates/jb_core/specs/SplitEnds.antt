-- Ends that rise, divided in two.
use Rattle.std.specs.Prelude.{ℕ, ◌≤◌, List, take, drop}
use Rattle.jb_cost.specs.Cut.{RisesTo}

-- ends that rise from a start to the last one, divided after the first n, of which m is the last
pub record IsParted (last start n : ℕ) (ends : List ℕ) (m : ℕ) : Type 0 where
  pub first : RisesTo m start (take n ends)
  pub rest : RisesTo last m (drop n ends)
  pub low : start ≤ m
  pub high : m ≤ last
