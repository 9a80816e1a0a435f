use Rattle.std.proofs.Common.{◌≤◌, arith}
use Rattle.std.specs.FinMap as map
use Rattle.jb_handle.proofs.changes.Changes.touched.Goals as goal

pub overflow_cast-result : goal.overflow_cast-result
overflow_cast-result c = let le : map.len c.self.inside.words ≤ c.self.inside.credits = c.self.invariant.within in omega (arith, c.len.ensures, c.self.invariant.narrow)
