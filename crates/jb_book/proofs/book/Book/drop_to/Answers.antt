use Rattle.std.proofs.Common.{◌≡◌, ◌+◌, ◌-◌, ◌≤◌, drop, List, sym, subst, ◌∙◌, arith, vec_len, vec_capacity}
use Rattle.jb_deck.specs.declared.done.Entry.{Entry}
use Rattle.jb_book.specs.Account.{shortened, trail_from}
use Rattle.jb_book.specs.Book.{account_of}
use Rattle.jb_book.proofs.Accounts.{kept-by}
use Rattle.jb_book.proofs.TrailEntries.{from-least, shortened-sound}
use Rattle.jb_book.proofs.book.Book.drop_to.Goals as goal

pub invariant_of-self : goal.invariant_of-self
invariant_of-self g c =
    let a = account_of c.self.inside in
    let left : c.drop_entries.new.trail.items ≡ trail_from c.args.past c.self.inside.trail.items =
    c.drop_entries.ensures.items ∙ subst (λ (es : List Entry). drop c.count_to-count.result es ≡ trail_from c.args.past es) c.deref.ensures.value c.count_to-count.ensures.rest in
    let had = c.self.invariant.room in
    let room : vec_len c.drop_entries.new.trail + (c.self.inside.next - c.self.inside.settled) ≤ vec_capacity c.drop_entries.new.trail = omega (arith, c.drop_entries.ensures.len, c.drop_entries.ensures.capacity, had) in
    kept-by g.H.Origin.begun _ (shortened c.args.past a) (λ i. record (account_of c.self.inside) { trail = left i }) (shortened-sound c.args.past a c.self.invariant.sound)
    c.self.invariant.open_sum c.self.invariant.line_sum
    (c.self.invariant.least ∙ sym (from-least c.args.past 0 c.self.inside.trail.items))
    c.self.invariant.narrow room c.self.invariant.ordered c.self.invariant.stops
