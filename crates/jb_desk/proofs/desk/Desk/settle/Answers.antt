use Rattle.std.proofs.Common.{rules, ◌≡◌, refl, arith}
use Rattle.jb_desk.proofs.SettledBatch.{settled-seen}
use Rattle.jb_desk.proofs.RoundCounts.{keeps-same}
use Rattle.jb_desk.proofs.desk.Desk.settle.Goals as goal

pub raise_settled-requires-clause-seen : goal.raise_settled-requires-clause-seen
raise_settled-requires-clause-seen g c =
    let upto = settled-seen c.args.out.counts.taken c.args.out.shape c.args.done.now _ c.settle-settled.new.self.register.book c.in-Ok.ensures.settles in
    let same : c.deref-2.result.now.register.book.shadow.settled ≡ c.settle-settled.new.self.register.book.shadow.settled = search rules in
    omega (arith, upto, same, c.end_of.ensures, c.seen-counts.ensures.counts.1)

pub returns-clause-seat : goal.returns-clause-seat
returns-clause-seat g c = record { desk = c.raise_settled.ensures.board; number = refl; counted = (refl, refl, refl) }

pub returns-in_default-clause-seat : goal.returns-in_default-clause-seat
returns-in_default-clause-seat g c = keeps-same _ _ refl
