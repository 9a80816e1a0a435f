use Rattle.std.proofs.Common.{rules, refl, arith, Some, None, ⊎_elim}
use Rattle.jb_journal.specs.Client.{client_honest, client_known, client_stops}
use Rattle.example_store.specs.Handles.{MayChange}
use Rattle.example_store.specs.declared.command.Command.TheVariants.{Put, Get, Delete}
use Rattle.example_store.specs.declared.command.Reply.TheVariants.{Stored, Deleted}
use Rattle.example_store.proofs.HandleLemmas.{change-may, change-obeyed, get-obeyed, none-may}
use Rattle.example_store.proofs.store.obey.Goals as goal

pub returns-in_err-put-in-Put-clause-obeys : goal.returns-in_err-put-in-Put-clause-obeys
returns-in_err-put-in-Put-clause-obeys g c =
    let key = c.in-Put.key in
    let value = c.in-Put.value in
    let may : MayChange g.H.Origin.begun (client_honest c.put.new.client) (Put key value) (client_known c.args.client.now) (client_known c.put.new.client) (client_stops c.args.client.now) (client_stops c.put.new.client) =
    ⊎_elim (λ same. none-may _ _ _ _ _ _ c.requires.client.client.own c.requires.noted same (Put key value) (λ m none. absurd (omega (arith, none))))
    (λ change. change-may _ _ _ _ _ _ c.requires.client.client.own c.requires.noted key (Some value) change (Put key value) (λ m. refl) (λ some. some) refl)
    c.in_err-put-in-Put.ensures.puts in
    search (rules, may)

pub returns-in_ok-put-in-Put-clause-obeys : goal.returns-in_ok-put-in-Put-clause-obeys
returns-in_ok-put-in-Put-clause-obeys g c =
    let key = c.in-Put.key in
    let value = c.in-Put.value in
    let put = c.in_ok-put-in-Put.ensures.puts in
    rw c.in-Put.is (change-obeyed _ _ _ _ _ _ c.requires.client.client.own c.requires.noted key (Some value) put.0 (Put key value) (λ m. refl) (λ some. some) refl put.1.0 put.1.1 (Stored key) (λ m. refl))

pub returns-in_err-value-in-Get-clause-obeys : goal.returns-in_err-value-in-Get-clause-obeys
returns-in_err-value-in-Get-clause-obeys g c =
    let may : MayChange g.H.Origin.begun (client_honest c.get.new.client) (Get c.in-Get.key) (client_known c.args.client.now) (client_known c.get.new.client) (client_stops c.args.client.now) (client_stops c.get.new.client) =
    none-may _ _ _ _ _ _ c.requires.client.client.own c.requires.noted c.get.ensures.kept (Get c.in-Get.key) (λ m none. refl) in
    search (rules, may)

pub returns-in_ok-value-in-Get-clause-obeys : goal.returns-in_ok-value-in-Get-clause-obeys
returns-in_ok-value-in-Get-clause-obeys g c =
    rw c.in-Get.is (get-obeyed _ _ _ _ _ _ c.requires.client.client.own c.requires.noted c.get.ensures.kept c.get.ensures.goes_on.knows c.in-Get.key _ c.in_ok-value-in-Get.ensures.value)

pub returns-in_err-delete-in-Delete-clause-obeys : goal.returns-in_err-delete-in-Delete-clause-obeys
returns-in_err-delete-in-Delete-clause-obeys g c =
    let key = c.in-Delete.key in
    let may : MayChange g.H.Origin.begun (client_honest c.delete.new.client) (Delete key) (client_known c.args.client.now) (client_known c.delete.new.client) (client_stops c.args.client.now) (client_stops c.delete.new.client) =
    ⊎_elim (λ same. none-may _ _ _ _ _ _ c.requires.client.client.own c.requires.noted same (Delete key) (λ m none. absurd (omega (arith, none))))
    (λ change. change-may _ _ _ _ _ _ c.requires.client.client.own c.requires.noted key None change (Delete key) (λ m. refl) (λ some. some) refl)
    c.in_err-delete-in-Delete.ensures.puts in
    search (rules, may)

pub returns-in_ok-delete-in-Delete-clause-obeys : goal.returns-in_ok-delete-in-Delete-clause-obeys
returns-in_ok-delete-in-Delete-clause-obeys g c =
    let key = c.in-Delete.key in
    let put = c.in_ok-delete-in-Delete.ensures.puts in
    rw c.in-Delete.is (change-obeyed _ _ _ _ _ _ c.requires.client.client.own c.requires.noted key None put.0 (Delete key) (λ m. refl) (λ some. some) refl put.1.0 put.1.1 (Deleted key) (λ m. refl))
