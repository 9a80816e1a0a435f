use Rattle.std.proofs.Common.{refl}
use Rattle.jb_book.proofs.RegisterCalls.{both-dropped}
use Rattle.jb_book.proofs.register.Register.drop_open.Goals as goal

pub invariant_of-self : goal.invariant_of-self
invariant_of-self g c = both-dropped c.self.invariant refl c.args.seat c.drop_open.ensures.value
