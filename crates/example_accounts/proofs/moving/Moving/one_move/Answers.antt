use Rattle.std.proofs.Common.{rules, ◌≡◌, length, sym, subst, ◌∙◌}
use Rattle.jb_journal.specs.Client.{client_honest, client_known, client_stops}
use Rattle.example_accounts.specs.Postings.{OpensOrMoves, StopsOne}
use Rattle.example_accounts.specs.declared.posting.Posting.{Posting}
use Rattle.example_accounts.proofs.AccountBalances.{move-keeps}
use Rattle.example_accounts.proofs.HandlesPosted.{all-kept, all-more}
use Rattle.example_accounts.proofs.moving.Moving.one_move.Goals as goal

pub returns-in_err-ticket-clause-posted : goal.returns-in_err-ticket-clause-posted
returns-in_err-ticket-clause-posted g c =
    let long : length c.in_ok-before.before ≡ 100 = search rules in
    all-kept g.H.Origin.begun (client_honest c.args.client.now) (client_honest c.stop_move.new.client) c.args.seen.now
    (λ held. c.found.ensures.goes_on.honest (c.stop_move.ensures.goes_on.honest held)) (client_stops c.args.client.now) (client_stops c.stop_move.new.client)
    (c.in_err-ticket.ensures.stops c.in_ok-before.before c.in-Some.ensures.moved long ∙ c.found.ensures.kept) c.requires.posted

pub post-requires-clause-posting : goal.post-requires-clause-posting
post-requires-clause-posting g c =
    let long : length c.in_ok-before.before ≡ 100 = search rules in
    record {
      whole = (long, search rules);
      keeps = subst (OpensOrMoves c.in_ok-before.before) (sym c.after-after.ensures) (move-keeps c.in_ok-before.before c.in-Some.granted long c.in-Some.ensures.moved);
    }

pub returns-clause-posted : goal.returns-clause-posted
returns-clause-posted g c =
    let b = g.H.Origin.begun in
    let long : length c.in_ok-before.before ≡ 100 = search rules in
    let p : Posting = record { ticket = c.in_ok-ticket.ticket; before = c.in_ok-before.before; after = c.after-after.result } in
    all-more b (client_honest c.found.new.client) (client_honest c.stop_move.new.client) c.args.seen.now c.post.new.seen (client_known c.found.new.client) c.last.result p
    (client_stops c.found.new.client) (client_stops c.stop_move.new.client) c.stop_move.ensures.goes_on.honest c.post.ensures.begins c.in_ok-before.ensures.found
    (subst (λ after. StopsOne (client_known c.found.new.client) c.in_ok-before.before after (client_stops c.found.new.client) (client_stops c.stop_move.new.client) c.in_ok-ticket.ticket)
    (sym c.after-after.ensures) (c.in_ok-ticket.ensures.stops c.in_ok-before.before c.in-Some.ensures.moved long))
    c.post.ensures.stands
    (all-kept b (client_honest c.args.client.now) (client_honest c.found.new.client) c.args.seen.now c.found.ensures.goes_on.honest (client_stops c.args.client.now) (client_stops c.found.new.client) c.found.ensures.kept c.requires.posted)
