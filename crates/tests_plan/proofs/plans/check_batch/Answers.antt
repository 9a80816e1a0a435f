use Rattle.std.proofs.Common.{rules}
use Rattle.tests_plan.proofs.plans.check_batch.Goals as goal

pub of-batch-requires-clause-fits : goal.of-batch-requires-clause-fits
of-batch-requires-clause-fits g c = let is = c.is_batch.ensures.0 (search rules) in rw c.deref.ensures.value at is.fits
