use Rattle.std.proofs.Common.{refl}
use Rattle.jb_book.proofs.RegisterCalls.{both-short}
use Rattle.jb_book.proofs.register.Register.drop_to.Goals as goal

pub invariant_of-self : goal.invariant_of-self
invariant_of-self g c = both-short c.self.invariant refl c.args.past c.drop_to.ensures
