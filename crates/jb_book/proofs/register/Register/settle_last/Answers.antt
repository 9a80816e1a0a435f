use Rattle.std.proofs.Common.{refl, rules, subst}
use Rattle.jb_deck.specs.Done.{entries_of, first_ticket}
use Rattle.jb_book.specs.Account.{failed_of}
use Rattle.jb_book.specs.CallsToBook.{FailsAfter, IsOutAs, Registered}
use Rattle.jb_book.proofs.BookMarks.{marked-by, marked-same}
use Rattle.jb_book.proofs.RegisterCalls.{both-failed, both-same, fails-after, kept-last}
use Rattle.jb_book.proofs.register.Register.settle_last.Goals as goal

pub returns-clause-fails : goal.returns-clause-fails
returns-clause-fails g c =
    let out : IsOutAs c.self.inside.book (first_ticket c.args.done.now) c.args.end c.args.shape = subst (λ n. IsOutAs c.self.inside.book n c.args.end c.args.shape) c.first.ensures (c.is_out.ensures.0 (search rules)) in
    subst (λ (r : Registered). FailsAfter c.args.end c.args.shape c.args.done.now r.book c.settle-settled.result c.fail-2.new.self) c.self.view_is
    (fails-after c.self.inside.book c.settle-settled.new.self c.fail-2.new.self c.args.end c.args.shape c.args.done.now out
    c.settle-settled.result c.settle-settled.ensures.ok c.settle-settled.ensures.wrong c.settle-settled.ensures.err c.fail-2.ensures.value)

pub invariant_of-self-then-not-is_out : goal.invariant_of-self-then-not-is_out
invariant_of-self-then-not-is_out g c = both-failed c.self.invariant c.look.ensures.kept.0 c.learn.ensures.own c.fail.ensures.value

pub invariant_of-self-2 : goal.invariant_of-self-2
invariant_of-self-2 g c =
    let out : IsOutAs c.self.inside.book (first_ticket c.args.done.now) c.args.end c.args.shape = subst (λ n. IsOutAs c.self.inside.book n c.args.end c.args.shape) c.first.ensures (c.is_out.ensures.0 (search rules)) in (
      kept-last c.requires.settling c.look.ensures.seen out
          c.settle-settled.new.self c.fail-2.new.self c.look.new.appender c.settle-settled.result c.reserved-reserved.ensures.sound c.self.invariant.0 c.settle-settled.ensures.ok c.settle-settled.ensures.err c.fail-2.ensures.value c.look.ensures.kept.0,
      marked-same c.learn.new.prefix c.settle-settled.new.self c.fail-2.new.self
          (marked-by c.self.inside.seen c.args.seen.now.marks c.learn.new.prefix c.self.inside.book c.settle-settled.new.self (entries_of c.args.done.now) c.self.invariant.1 c.learn.ensures.own c.learn.ensures.other c.requires.marked c.settle-settled.result c.settle-settled.ensures.ok c.settle-settled.ensures.err)
          (failed_of c.settle-settled.new.self) refl refl c.fail-2.ensures.value,
    )

pub invariant_of-self : goal.invariant_of-self
invariant_of-self g c = both-same c.self.invariant c.look.ensures.kept.0 c.learn.ensures.own
