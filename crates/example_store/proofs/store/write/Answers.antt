use Rattle.std.proofs.Common.{rules, ◌≡◌, ◌%◌, [], ◌∷◌, ◌++◌, inr}
use Rattle.jb_journal.specs.Client.{client_known, client_stops, one_block}
use Rattle.example_store.proofs.StoreCalls.{goes-then, puts-err}
use Rattle.example_store.proofs.store.write.Goals as goal

pub returns-in_err-wait-clause-goes_on : goal.returns-in_err-wait-clause-goes_on
returns-in_err-wait-clause-goes_on g c = goes-then _ _ _ c.change.ensures.goes_on c.wait.ensures.goes_on

pub returns-in_err-wait-clause-puts : goal.returns-in_err-wait-clause-puts
returns-in_err-wait-clause-puts g c =
    let stopped : client_stops c.wait.new.self ≡ client_stops c.args.client.now ++ (c.in_ok-ticket.ticket, one_block (c.args.key % 32) c.args.block.now) ∷ [] = search rules in
    puts-err _ _ (client_known c.args.client.now) (client_known c.wait.new.self) _ _ c.from_residual-in_err-wait.result c.from_residual-in_err-wait.ensures.0
    (inr (record { ticket = c.in_ok-ticket.ticket; stopped = stopped; later = c.in_ok-ticket.ensures.later }))

pub returns-clause-goes_on : goal.returns-clause-goes_on
returns-clause-goes_on g c = goes-then _ _ _ c.change.ensures.goes_on c.wait.ensures.goes_on

pub returns-clause-puts : goal.returns-clause-puts
returns-clause-puts g c =
    let stopped : client_stops c.wait.new.self ≡ client_stops c.args.client.now ++ (c.in_ok-ticket.ticket, one_block (c.args.key % 32) c.args.block.now) ∷ [] = search rules in
    (record { ticket = c.in_ok-ticket.ticket; stopped = stopped; later = c.in_ok-ticket.ensures.later }, (_, c.in_ok-wait.ensures.noted))
