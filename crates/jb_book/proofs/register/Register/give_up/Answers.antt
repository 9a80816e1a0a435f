use Rattle.jb_board.proofs.EntryPlaces.{prefix_same}
use Rattle.jb_book.proofs.RegisterCalls.{both-failed}
use Rattle.jb_book.proofs.register.Register.give_up.Goals as goal

pub invariant_of-self : goal.invariant_of-self
invariant_of-self g c = both-failed c.self.invariant c.check.ensures.kept (prefix_same c.self.inside.seen) c.fail.ensures.value
