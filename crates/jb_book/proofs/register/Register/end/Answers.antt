use Rattle.std.proofs.Common.{◌≡◌, List, sym, subst}
use Rattle.jb_deck.specs.declared.done.Entry.{Entry}
use Rattle.jb_book.specs.CallsToBook.{IsMachineRun, Registered, changes_in}
use Rattle.jb_book.proofs.RegisterCalls.{ends-run}
use Rattle.jb_book.proofs.register.Register.end.Goals as goal

pub returns-clause-run : goal.returns-clause-run
returns-clause-run g c =
    subst (λ (x : Registered × List Entry). IsMachineRun x.0.book.shape x.0.log x.1) (λ i. (c.self.view_is i, sym c.into_trail.ensures.value i))
    (ends-run c.into_trail.result c.self.inside.book c.self.inside.appender c.reserved-reserved.ensures.sound c.self.invariant.0.led)

pub returns-clause-touched : goal.returns-clause-touched
returns-clause-touched g c = subst (λ (r : Registered). r.book.changes ≡ changes_in r.log) c.self.view_is c.self.invariant.0.touched
