use Rattle.std.proofs.Common.{◌≡◌, length, slice_range}
use Rattle.jb_cost.specs.Cut.{piece_cost}
use Rattle.jb_cost.specs.Footprint.{covered_by}
use Rattle.jb_price.specs.FirstUndercut.{LeastTo}
use Rattle.jb_price.proofs.check_prices.least_undercut.Given as goal

-- The footprint is that of the handles from the start that was tried last up to the end.
abbrev pub invariant-loop-from : goal.invariant-loop-from
invariant-loop-from l =
    record {
      covers : l.footprint ≡ covered_by l.fn.geometry (slice_range l.handles l.from l.end);
      looked : LeastTo (piece_cost l.fn.geometry l.handles) l.limit (length l.handles) l.prices l.from l.end l.least;
    }
