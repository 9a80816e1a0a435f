use Rattle.std.proofs.Common.{◌-◌, ◌≤◌, replicate}
use Rattle.std.specs.Io.KnownBytes.{Appends}
use Rattle.jb_image.proofs.allocation.write_zeros.Given as goal

-- so many zeros are after what the writer held
abbrev pub invariant-loop-done : goal.invariant-loop-done
invariant-loop-done g l =
    Appends (g.W.Write.contents l.initial.writer) (g.W.Write.contents l.writer) (replicate l.done 0) × (l.done ≤ l.len)

abbrev pub decreases-loop-done : goal.decreases-loop-done
decreases-loop-done g l = l.len - l.done
