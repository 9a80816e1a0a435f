use Rattle.std.proofs.Common.{rules, ◌≡◌, None, [], sym, subst, ◌∙◌}
use Rattle.jb_journal.specs.Client.{client_honest, client_known, client_stops}
use Rattle.example_accounts.specs.Postings.{ComesAfter, StopsOne, last_posting}
use Rattle.example_accounts.specs.declared.posting.Posting.{Posting}
use Rattle.example_accounts.proofs.HandlesPosted.{all-kept, all-more, comes-next}
use Rattle.example_accounts.proofs.moving.Moving.open.Goals as goal

pub returns-in_err-ticket-clause-posted : goal.returns-in_err-ticket-clause-posted
returns-in_err-ticket-clause-posted g c =
    all-kept g.H.Origin.begun (client_honest c.args.client.now) (client_honest c.stop_opening.new.client) c.args.seen.now
    (λ held. c.found.ensures.goes_on.honest (c.stop_opening.ensures.goes_on.honest held)) (client_stops c.args.client.now) (client_stops c.stop_opening.new.client)
    (c.in_err-ticket.ensures.stops [] ∙ c.found.ensures.kept) c.requires.posted

pub post-requires-clause-comes : goal.post-requires-clause-comes
post-requires-clause-comes g c =
    let p : Posting = record { ticket = c.in_ok-ticket.ticket; before = c.in_ok-before.before; after = c.opening-after.result } in
    let stops = c.in_ok-ticket.ensures.stops c.in_ok-before.before in
    let same : last_posting None c.deref_mut.result.now ≡ c.last.result = search rules in
    subst (λ last. ComesAfter last p) (sym same)
    (comes-next g.H.Origin.begun (client_honest c.found.new.client) (client_known c.found.new.client) c.last.result p c.in_ok-before.ensures.found stops.higher)

pub returns-clause-posted : goal.returns-clause-posted
returns-clause-posted g c =
    let b = g.H.Origin.begun in
    let p : Posting = record { ticket = c.in_ok-ticket.ticket; before = c.in_ok-before.before; after = c.opening-after.result } in
    all-more b (client_honest c.found.new.client) (client_honest c.stop_opening.new.client) c.args.seen.now c.post.new.seen (client_known c.found.new.client) c.last.result p
    (client_stops c.found.new.client) (client_stops c.stop_opening.new.client) c.stop_opening.ensures.goes_on.honest c.post.ensures.begins c.in_ok-before.ensures.found
    (subst (λ after. StopsOne (client_known c.found.new.client) c.in_ok-before.before after (client_stops c.found.new.client) (client_stops c.stop_opening.new.client) c.in_ok-ticket.ticket)
    (sym c.opening-after.ensures) (c.in_ok-ticket.ensures.stops c.in_ok-before.before))
    c.post.ensures.stands
    (all-kept b (client_honest c.args.client.now) (client_honest c.found.new.client) c.args.seen.now c.found.ensures.goes_on.honest (client_stops c.args.client.now) (client_stops c.found.new.client) c.found.ensures.kept c.requires.posted)
