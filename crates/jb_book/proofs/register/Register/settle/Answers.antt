use Rattle.std.proofs.Common.{rules, ap, subst, ◌∙◌, ◌≡◌, false, Ok}
use Rattle.jb_deck.specs.Done.{entries_of}
use Rattle.jb_book.specs.Account.{failed_of}
use Rattle.jb_book.specs.CallsToBook.{Registered, SettlesOrFails}
use Rattle.jb_book.proofs.BookMarks.{marked-settled}
use Rattle.jb_book.proofs.RegisterCalls.{both-failed, both-same, kept-settled, none-whole, settles-out}
use Rattle.jb_book.proofs.register.Register.settle.Goals as goal

pub returns-then-not-is_whole-clause-settles : goal.returns-then-not-is_whole-clause-settles
returns-then-not-is_whole-clause-settles g c =
    let whole : c.is_whole.result ≡ false = search rules in
    none-whole c.args.self.now.book _ c.args.end c.args.shape c.args.done.now _ c.is_whole.result (search rules) whole (search rules)

pub returns-in-Ok-clause-settles : goal.returns-in-Ok-clause-settles
returns-in-Ok-clause-settles g c =
    let both = c.is_whole.ensures.0 (search rules) in
    subst (λ (r : Registered). SettlesOrFails c.args.end c.args.shape c.args.done.now r.book (Ok tt) c.settle.new.self) c.self.view_is
    (settles-out c.self.inside.book c.settle.new.self c.args.end c.args.shape c.args.done.now both.0 both.1 c.in-Ok.ensures.ok)

pub invariant_of-self-then-not-is_whole : goal.invariant_of-self-then-not-is_whole
invariant_of-self-then-not-is_whole g c = both-failed c.self.invariant c.look.ensures.kept.0 c.learn.ensures.own c.fail.ensures.value

pub invariant_of-self-in-Err : goal.invariant_of-self-in-Err
invariant_of-self-in-Err g c = both-failed c.self.invariant c.look.ensures.kept.0 c.learn.ensures.own (c.fail-in-Err.ensures.value ∙ ap failed_of c.in-Err.ensures.err)

pub invariant_of-self-in-Ok : goal.invariant_of-self-in-Ok
invariant_of-self-in-Ok g c =
    let (past, settles, after) = c.in-Ok.ensures.ok in
    let both = c.is_whole.ensures.0 (search rules) in (
      kept-settled c.requires.settling c.look.ensures.seen both.0
          c.reserved-reserved.ensures.sound c.self.invariant.0 past settles both.1 after c.look.ensures.kept.0,
      marked-settled c.self.inside.seen c.args.seen.now.marks c.learn.new.prefix c.self.inside.book c.settle.new.self (entries_of c.args.done.now) c.self.invariant.1 c.learn.ensures.own c.learn.ensures.other c.requires.marked past after,
    )

pub invariant_of-self : goal.invariant_of-self
invariant_of-self g c = both-same c.self.invariant c.look.ensures.kept.0 c.learn.ensures.own
