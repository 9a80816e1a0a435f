use Rattle.std.proofs.Common.{◌≤◌, sym, ap, subst, ◌∙◌}
use Rattle.jb_deck.specs.Done.{start_of}
use Rattle.jb_book.specs.Account.{Account}
use Rattle.jb_book.proofs.TrailEntries.{start-low}
use Rattle.jb_book.proofs.book.Book.start.Goals as goal

pub returns-clause-settled : goal.returns-clause-settled
returns-clause-settled g c =
    subst (λ (a : Account). c.first_start.result ≤ a.shadow.settled) c.self.view_is
    (subst (λ n. n ≤ c.self.inside.settled) (sym (c.first_start.ensures ∙ ap start_of c.deref.ensures.value)) (start-low c.self.inside.settled c.self.inside.trail.items c.self.invariant.sound.trail))
