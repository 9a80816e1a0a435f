use Rattle.std.proofs.Common.{suc, ◌≤◌, length, drop, sym, ap, ◌∙◌, arith, length-take-le}
use Rattle.jb_book.proofs.TrailEntries.{front-last}
use Rattle.jb_book.proofs.follow.count_to.Goals as goal

pub returns-clause-rest : goal.returns-clause-rest
returns-clause-rest c =
    let es = c.args.entries.now in
    let long = length-take-le c.saturating_sub-last.result es (omega (arith, c.saturating_sub-last.ensures)) in
    let over : length c.args.entries.now ≤ suc c.loop-entry.entry-index = omega (arith, c.loop-entry-test.false, c.saturating_sub-last.ensures, long) in
    ap (λ n. drop n es) c.loop-entry.invariant.counts ∙ sym (front-last c.args.past es c.loop-entry.entry-index over) ∙ sym c.loop-entry.invariant.rest
