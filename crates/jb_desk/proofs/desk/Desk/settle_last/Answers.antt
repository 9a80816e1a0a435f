use Rattle.std.proofs.Common.{rules, ◌≡◌, inl, inr, refl, ap, ◌∙◌, arith}
use Rattle.jb_board.specs.Steps.{raised_settled}
use Rattle.jb_desk.specs.Seats.{view_of}
use Rattle.jb_desk.proofs.SettledBatch.{failed-seen}
use Rattle.jb_desk.proofs.RoundCounts.{keeps-same}
use Rattle.jb_desk.proofs.desk.Desk.settle_last.Goals as goal

pub raise_settled-requires-clause-seen : goal.raise_settled-requires-clause-seen
raise_settled-requires-clause-seen g c =
    let upto = failed-seen c.args.out.counts.taken c.args.out.shape c.args.done.now _ c.settle_last-settled.new.self.register.book c.in-Ok.ensures.fails in
    let same : c.deref-2.result.now.register.book.shadow.settled ≡ c.settle_last-settled.new.self.register.book.shadow.settled = search rules in
    omega (arith, upto, same, c.end_of.ensures, c.seen-counts.ensures.counts.1)

pub returns-clause-seat : goal.returns-clause-seat
returns-clause-seat g c = record { desk = c.raise_settled.ensures.board; number = refl; counted = (refl, refl, refl) }

pub returns-in_default-clause-seat : goal.returns-in_default-clause-seat
returns-in_default-clause-seat g c = keeps-same _ _ refl

pub returns-clause-view : goal.returns-clause-view
returns-clause-view g c = (_, inl (refl, c.raise_settled.ensures.view ∙ ap (raised_settled (view_of c.args.seat.now)) c.end_of.ensures))

pub returns-in_default-clause-view : goal.returns-in_default-clause-view
returns-in_default-clause-view g c = (_, inr (refl, refl))
