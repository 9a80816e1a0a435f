use Rattle.std.proofs.Common.{rules, Some, None, ap}
use Rattle.jb_book.specs.Account.{AnswersNumber}
use Rattle.jb_book.specs.CallsToBook.{Registered}
use Rattle.jb_book.proofs.BookMarks.{shown-by}
use Rattle.jb_desk.proofs.queue_state.QueueState.number_of.Goals as goal

pub returns-then-ticket-start-clause-shown : goal.returns-then-ticket-start-clause-shown
returns-then-ticket-start-clause-shown g c =
    let a = c.args.self.now.register.book in
    let is : AnswersNumber a c.args.ticket None = search rules in
    shown-by c.sights-all.result.marks c.learn.new.seen.marks a c.args.ticket None c.sights-all.ensures.marks c.learn.ensures.other.1 is

pub returns-in-Some-clause-shown : goal.returns-in-Some-clause-shown
returns-in-Some-clause-shown g c =
    let a = c.args.self.now.register.book in
    let is : AnswersNumber a c.args.ticket (Some c.in-Some.number) = search rules in
    shown-by c.sights-all.result.marks c.learn.new.seen.marks a c.args.ticket (Some c.in-Some.number) c.sights-all.ensures.marks c.learn.ensures.other.1 is

pub returns-then-ticket-start-clause-begins : goal.returns-then-ticket-start-clause-begins
returns-then-ticket-start-clause-begins g c = c.learn.ensures.own

pub returns-then-ticket-start-clause-err : goal.returns-then-ticket-start-clause-err
returns-then-ticket-start-clause-err g c = tt

pub returns-then-ticket-start-clause-book : goal.returns-then-ticket-start-clause-book
returns-then-ticket-start-clause-book g c = ap (λ (r : Registered). r.book) c.sights-all.ensures.kept

pub returns-in-Some-clause-begins : goal.returns-in-Some-clause-begins
returns-in-Some-clause-begins g c = c.learn.ensures.own

pub returns-in-Some-clause-err : goal.returns-in-Some-clause-err
returns-in-Some-clause-err g c = tt

pub returns-in-Some-clause-book : goal.returns-in-Some-clause-book
returns-in-Some-clause-book g c = ap (λ (r : Registered). r.book) c.sights-all.ensures.kept
