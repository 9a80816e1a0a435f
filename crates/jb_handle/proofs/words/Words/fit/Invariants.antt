use Rattle.std.proofs.Common.{All, take}
use Rattle.jb_handle.specs.HeldChanges.{FitsWord}
use Rattle.jb_handle.proofs.words.Words.fit.Given as goal

-- there is room for each word so far
abbrev pub invariant-loop-home : goal.invariant-loop-home
invariant-loop-home l = All (λ e. FitsWord l.fn.shape e.0 e.1) (take l.home-index l.home-items)
