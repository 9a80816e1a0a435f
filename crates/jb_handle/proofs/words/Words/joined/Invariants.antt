use Rattle.std.proofs.Common.{◌≡◌, ℕ, drop}
use Rattle.std.specs.FinMap as map
use Rattle.jb_handle.specs.Words.{word}
use Rattle.jb_handle.proofs.words.Words.joined.Given as goal

-- what is gathered is the words of the handles from here on
abbrev pub invariant-loop-at : goal.invariant-loop-at
invariant-loop-at l = (q : ℕ) → map.get l.gathered q ≡ word (drop l.at l.handles) q
