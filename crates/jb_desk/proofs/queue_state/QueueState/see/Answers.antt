use Rattle.std.proofs.Common.{rules, ◌≡◌, ◌<◌, ◌≤◌, ◌+◌, length, length-append, IsTrue, ap, sym, subst, ◌∙◌, arith}
use Rattle.jb_book.specs.CallsToBook.{Registered}
use Rattle.jb_desk.proofs.queue_state.QueueState.see.Goals as goal

pub returns-clause-given : goal.returns-clause-given
returns-clause-given g c =
    let first = c.learn.ensures.other.0 in
    let many : length c.sights-all.result.stops + length first.0 ≡ length c.learn.new.seen.stops = sym (length-append c.sights-all.result.stops first.0) ∙ ap length first.1 in
    let whole : length c.sights-all.result.stops ≡ c.next-next.result = search rules in
    let within : length c.learn.new.seen.stops ≤ c.next-next.result = search rules in
    (search rules, search rules)
