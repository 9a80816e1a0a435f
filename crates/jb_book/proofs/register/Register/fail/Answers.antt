use Rattle.std.proofs.Common.{refl}
use Rattle.jb_book.proofs.RegisterCalls.{both-failed}
use Rattle.jb_book.proofs.register.Register.fail.Goals as goal

pub invariant_of-self : goal.invariant_of-self
invariant_of-self g c = both-failed c.self.invariant refl c.learn.ensures.own c.fail.ensures.value
