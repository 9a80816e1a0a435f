use Rattle.jb_handle.proofs.AdmittedChange.{kept-new}
use Rattle.jb_handle.proofs.changes.Changes.new.Goals as goal

pub invariant_of-result : goal.invariant_of-result
invariant_of-result c = rw c.new.ensures (kept-new c.args.credits c.args.shape c.ranges.credits.fits)
