use Rattle.std.proofs.Common.{rules, ◌≡◌, false, sym, subst}
use Rattle.jb_handle.specs.Size.{IsWithinSize}
use Rattle.jb_plan.specs.Costs.{HasCut}
use Rattle.jb_book.specs.Account.{Account}
use Rattle.jb_book.specs.Book.{account_of}
use Rattle.jb_book.proofs.Accounts.{queue-size}
use Rattle.jb_book.proofs.LeastCut.{cut-of}
use Rattle.jb_book.proofs.book.Book.take.Goals as goal

pub of-requires-clause-size : goal.of-requires-clause-size
of-requires-clause-size g c =
    let running : c.self.inside.aborted ≡ false = search rules in
    let is : c.replace-handles.result.items ≡ c.self.inside.queue.items = search rules in
    subst IsWithinSize (sym is) (queue-size (account_of c.self.inside) c.self.invariant.sound running)

pub returns-clause-cut : goal.returns-clause-cut
returns-clause-cut g c =
    let running : c.self.inside.aborted ≡ false = search rules in
    subst (λ (a : Account). HasCut a.shape a.shadow.queue) c.self.view_is (cut-of (account_of c.self.inside) c.self.invariant.sound running)
