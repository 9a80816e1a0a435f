use Rattle.std.proofs.Common.{◌≡◌, ◌+◌, ◌<◌, ◌≤◌, length, get_or, drop, sym, ap, subst, ◌∙◌}
use Rattle.std.proofs.lemmas.List.{get_or_default}
use Rattle.jb_deck.specs.declared.done.Entry.{Entry}
use Rattle.jb_deck.specs.Done.{Follow, least_after}
use Rattle.jb_book.proofs.TrailEntries.{at-entry, from-entry, least-entry}
use Rattle.jb_book.proofs.follow.past_of.Goals as goal

pub loop-entry-preserved : goal.loop-entry-preserved
loop-entry-preserved c =
    let none : Entry = record { first = 0; past = 0; number = 0; blocks = 0 } in
    let e : Entry = get_or c.args.entries.now c.loop-entry.entry-index none in
    let there : c.loop-entry.entry-index < length c.args.entries.now = c.loop-entry-test.true in
    let here : e ≡ get_or c.args.entries.now c.loop-entry.entry-index e = get_or_default c.args.entries.now c.loop-entry.entry-index none e there in
    let number : c.after-next.result ≡ e.number + 1 = c.after-next.ensures.value in
    record {
      to = λ past is. subst (λ n. Follow e.past n past (drop (c.loop-entry.entry-index + 1) c.args.entries.now)) (sym number)
          (at-entry c.args.entries.now c.loop-entry.entry-index e there here c.loop-entry.past c.loop-entry.next past (c.loop-entry.invariant.to past is)).3;
      from = λ past is. c.loop-entry.invariant.from past (from-entry c.args.entries.now c.loop-entry.entry-index e there here c.loop-entry.past c.loop-entry.next past c.if-entry-past.false c.if-entry-past-2.false
          (subst (λ n. c.loop-entry.next ≤ n) c.from.ensures c.if-from-next.false)
          (subst (λ n. Follow e.past n past (drop (c.loop-entry.entry-index + 1) c.args.entries.now)) number is));
      last = c.loop-entry.invariant.last ∙ least-entry c.args.entries.now c.loop-entry.entry-index e there here c.loop-entry.next ∙ ap (λ n. least_after n (drop (c.loop-entry.entry-index + 1) c.args.entries.now)) (sym number);
      narrow = c.after-next.ensures.narrow;
    }
