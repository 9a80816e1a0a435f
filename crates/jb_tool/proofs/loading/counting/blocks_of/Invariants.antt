use Rattle.std.proofs.Common.{◌≡◌, ℕ, drop, take}
use Rattle.std.specs.List.{sum_by}
use Rattle.jb_deck.specs.Done.{Follow}
use Rattle.jb_tool.proofs.TrailBlocks.{Goes}
use Rattle.jb_tool.proofs.loading.counting.blocks_of.Given as goal

-- the groups so far are added up, and the others follow them
abbrev pub invariant-loop-entry : goal.invariant-loop-entry
invariant-loop-entry l = record {
  left : (past : ℕ) → Follow 0 0 past l.trail → Goes past l.blocks (drop l.entry-index l.trail);
  sum : l.blocks ≡ sum_by (λ e. e.blocks) (take l.entry-index l.trail);
}
