use Rattle.std.proofs.Common.{rules, ◌≡◌, ◌-◌, sum, Some, arith}
use Rattle.std.specs.Map.{values_of}
use Rattle.jb_book.specs.Account.{dropped_of}
use Rattle.jb_book.specs.Book.{account_of}
use Rattle.jb_book.specs.Shadow.{credits_at}
use Rattle.jb_book.proofs.Accounts.{dropped-sound, kept-by, sum-gone}
use Rattle.jb_book.proofs.book.Book.drop_open.Goals as goal

pub overflow_sub-self : goal.overflow_sub-self
overflow_sub-self g c =
    let there : credits_at (account_of c.self.inside).shadow c.args.seat ≡ Some c.in-Some.credits = search rules in
    omega (arith, sum-gone c.self.inside.seats.entries c.args.seat c.in-Some.credits there, c.self.invariant.open_sum, c.from.ensures)

pub invariant_of-self : goal.invariant_of-self
invariant_of-self g c =
    let there : credits_at (account_of c.self.inside).shadow c.args.seat ≡ Some c.in-Some.credits = search rules in
    let gone = sum-gone c.self.inside.seats.entries c.args.seat c.in-Some.credits there in
    let counted : c.self.inside.open_sum - c.from.result ≡ sum (values_of (dropped_of c.args.seat (account_of c.self.inside)).shadow.seats) = omega (arith, gone, c.self.invariant.open_sum, c.from.ensures) in
    kept-by g.H.Origin.begun _ (dropped_of c.args.seat (account_of c.self.inside)) (search rules) (dropped-sound (account_of c.self.inside) c.self.invariant.sound c.args.seat) counted
    c.self.invariant.line_sum c.self.invariant.least c.self.invariant.narrow c.self.invariant.room c.remove.ensures.ordered c.self.invariant.stops
