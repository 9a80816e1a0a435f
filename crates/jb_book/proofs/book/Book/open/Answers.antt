use Rattle.std.proofs.Common.{rules, ℕ, ◌≡◌, ◌+◌, sum, None, arith}
use Rattle.std.specs.Map.{values_of}
use Rattle.jb_core.proofs.MapEntries.{sum-insert}
use Rattle.jb_book.specs.Account.{granted_to, begin_refusal}
use Rattle.jb_book.specs.Book.{account_of}
use Rattle.jb_book.specs.Shadow.{credits_at}
use Rattle.jb_book.proofs.Accounts.{begun-sound, kept-by}
use Rattle.jb_book.proofs.book.Book.open.Goals as goal

pub invariant_of-self : goal.invariant_of-self
invariant_of-self g c =
    let none : begin_refusal (account_of c.self.inside) c.args.seat c.args.credits ≡ None = search rules in
    let free : credits_at (account_of c.self.inside).shadow c.args.seat ≡ None = search rules in
    let more = sum-insert (λ (x : ℕ). x) c.self.inside.seats.entries c.args.seat c.args.credits free in
    let counted : c.self.inside.open_sum + c.from.result ≡ sum (values_of (granted_to c.args.seat c.args.credits (account_of c.self.inside)).shadow.seats) = omega (arith, more, c.self.invariant.open_sum, c.from.ensures) in
    kept-by g.H.Origin.begun _ (granted_to c.args.seat c.args.credits (account_of c.self.inside)) (search rules) (begun-sound (account_of c.self.inside) c.self.invariant.sound c.args.seat c.args.credits none) counted
    c.self.invariant.line_sum c.self.invariant.least c.self.invariant.narrow c.self.invariant.room c.insert.ensures.ordered c.self.invariant.stops
