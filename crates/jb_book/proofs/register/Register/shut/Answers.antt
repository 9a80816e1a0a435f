use Rattle.std.proofs.Common.{refl}
use Rattle.jb_book.proofs.RegisterCalls.{both-shut}
use Rattle.jb_book.proofs.register.Register.shut.Goals as goal

pub invariant_of-self : goal.invariant_of-self
invariant_of-self g c = both-shut c.self.invariant refl c.shut.ensures.value
