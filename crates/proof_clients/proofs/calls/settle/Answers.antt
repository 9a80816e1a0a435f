use Rattle.std.proofs.Common.{◌++◌, refl, ap, ◌∙◌}
use Rattle.jb_deck.specs.Done.{entries_of}
use Rattle.jb_book.specs.Account.{Account}
use Rattle.proof_clients.proofs.calls.settle.Goals as goal

-- the queue is taken, committed and settled
pub returns-in-Ok : goal.returns-in-Ok
returns-in-Ok g c =
    let old = c.args.book.now in
    let p = c.in_ok-prepared.prepared in
    let plan = c.in_ok-prepared.ensures in
    let can = c.in_ok-batch.ensures.taken in
    let entries = entries_of c.in_ok-done.done in
    let settles = c.in-Ok.ensures.ok in
    let whole = plan.batch ∙ c.in_ok-batch.ensures.batch in
    let least = rw whole at plan.planned.least in
    let first = rw whole at c.in_ok-done.ensures.tells in
    record {
      could = can.0;
      cut = p.groups;
      entries = entries;
      least = least;
      told = c.in_ok-done.ensures.trail;
      trail = ap (λ (a : Account). a.trail) settles.2 ∙ ap (λ (a : Account). a.trail ++ entries) can.1;
      goes = λ shape usable calls called. (c.take.new.self, (old, called, (can.0, refl, least, can.1)), (settles, first));
    }
