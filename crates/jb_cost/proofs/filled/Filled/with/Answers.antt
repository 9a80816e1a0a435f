use Rattle.std.proofs.Common.{◌+◌, ◌*◌, ◌∙◌, ap, arith}
use Rattle.jb_cost.proofs.Ceilings.{ceil-same}
use Rattle.jb_cost.proofs.filled.Filled.with.Goals as goal

pub invariant_of-result : goal.invariant_of-result
invariant_of-result c =
    let s = c.args.self in
    record {
      some = s.some;
      enough = s.enough ∙ ceil-same s.entries (s.entries + c.args.more) s.per s.some (omega arith) (omega (arith, c.if-entries-self.true, s.full, ap (λ n. n * s.per) s.enough));
      full = s.full;
    }
