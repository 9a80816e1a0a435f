use Rattle.std.proofs.Common.{rules, ◌≡◌, ◌⊎◌, inl, inr, ⊎_elim, None, ◌∙◌}
use Rattle.jb_journal.specs.Client.{client_honest, client_known, client_stops}
use Rattle.example_store.specs.Handles.{ChangesKey}
use Rattle.example_store.proofs.StoreCalls.{changed-key, goes-then}
use Rattle.example_store.proofs.store.delete.Goals as goal

pub returns-in_err-write-clause-goes_on : goal.returns-in_err-write-clause-goes_on
returns-in_err-write-clause-goes_on g c = goes-then _ _ _ c.table_of.ensures.goes_on c.write.ensures.goes_on

pub returns-in_err-write-clause-puts : goal.returns-in_err-write-clause-puts
returns-in_err-write-clause-puts g c =
    let more : (client_stops c.write.new.client ≡ client_stops c.args.client.now)
    ⊎ ChangesKey g.H.Origin.begun (client_honest c.write.new.client) c.args.key None (client_known c.args.client.now) (client_known c.write.new.client) (client_stops c.args.client.now) (client_stops c.write.new.client) =
    ⊎_elim (λ same. inl (same ∙ c.table_of.ensures.kept))
    (λ put. inr (changed-key _ _ _ c.args.key None _ _ _ _ _ _ _ _ c.block.result c.in_ok-table.ensures.reads c.table_of.ensures.goes_on.knows c.write.ensures.goes_on.knows c.write.ensures.goes_on.honest c.table_of.ensures.kept
    c.delete.ensures c.block.ensures put))
    c.in_err-write.ensures.puts in
    search (rules, more)

pub returns-clause-goes_on : goal.returns-clause-goes_on
returns-clause-goes_on g c = goes-then _ _ _ c.table_of.ensures.goes_on c.write.ensures.goes_on

pub returns-clause-puts : goal.returns-clause-puts
returns-clause-puts g c =
    let put = c.in_ok-write.ensures.puts in (
      changed-key _ _ _ c.args.key None _ _ _ _ _ _ _ _ c.block.result c.in_ok-table.ensures.reads c.table_of.ensures.goes_on.knows c.write.ensures.goes_on.knows c.write.ensures.goes_on.honest c.table_of.ensures.kept
          c.delete.ensures c.block.ensures put.0,
      put.1,
    )
