use Rattle.std.proofs.Common.{refl}
use Rattle.jb_book.proofs.RegisterCalls.{both-open}
use Rattle.jb_book.proofs.register.Register.open.Goals as goal

pub invariant_of-self : goal.invariant_of-self
invariant_of-self g c = both-open c.self.invariant refl c.open.result c.args.seat c.args.credits c.open.ensures.ok c.open.ensures.granted c.open.ensures.err
