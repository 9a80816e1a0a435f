use Rattle.std.proofs.Common.{◌≡◌, ◌≤◌, ◌+◌, length, length-append, ap, sym, subst, ◌∙◌, arith}
use Rattle.jb_book.specs.CallsToBook.{Registered}
use Rattle.jb_book.proofs.register.Register.look.Goals as goal

pub returns-clause-seen : goal.returns-clause-seen
returns-clause-seen g c =
    let first = c.look.ensures.seen in
    let many : length c.args.prefix.now + length first.0 ≡ length c.self.inside.appender = sym (length-append c.args.prefix.now first.0) ∙ ap length first.1 in
    subst (λ (r : Registered). length c.args.prefix.now ≤ r.book.shadow.next) c.self.view_is (omega (arith, many, c.self.invariant.0.counted))
