use Rattle.std.proofs.Common.{rules, ◌≡◌, ℕ, ◌<◌, List, length, get_or, ap, subst, ◌∙◌, arith}
use Rattle.std.proofs.lemmas.List.{get_or_default}
use Rattle.example_store.specs.declared.command.Command.{Command}
use Rattle.example_store.proofs.ServeLemmas.{going-ends, going-none, next-fails, next-going}
use Rattle.example_store.proofs.serving.Serving.serve.Goals as goal

here : (i : ℕ) (xs commands : List Command) → xs ≡ commands → i < length xs → i < length commands
here i xs commands same within = subst (λ l. i < length l) same within

there : (i : ℕ) (xs commands : List Command) (d : Command) → xs ≡ commands → i < length xs → get_or xs i d ≡ get_or commands i (get_or xs i d)
there i xs commands d same within = get_or_default xs i d (get_or xs i d) within ∙ ap (λ l. get_or l i (get_or xs i d)) same

pub loop-command-init : goal.loop-command-init
loop-command-init g c = record {
  client = c.requires.client;
  going = going-none _ _ _ _ _ _ c.requires.fresh c.requires.none;
}

pub loop-command-preserved : goal.loop-command-preserved
loop-command-preserved g c = record {
  client = c.obey.ensures.client;
  going = next-going _ _ _ _ _ _ _ c.loop-command.invariant.going (here _ _ _ c.deref-command-items.ensures.value c.loop-command-test.true) _ (there _ _ _ _ c.deref-command-items.ensures.value c.loop-command-test.true) _ _ _ c.obey.ensures.goes_on.knows c.obey.ensures.goes_on.honest c.obey.ensures.client.client.own _ c.in_ok-reply.ensures.obeys _ c.in_ok-push.ensures.items;
}

pub returns-in_err-reply : goal.returns-in_err-reply
returns-in_err-reply g c =
    next-fails _ _ _ _ _ _ _ c.loop-command.invariant.going (here _ _ _ c.deref-command-items.ensures.value c.loop-command-test.true) _ (there _ _ _ _ c.deref-command-items.ensures.value c.loop-command-test.true) _ _ _ c.obey.ensures.goes_on.knows c.obey.ensures.goes_on.honest c.obey.ensures.client.client.own c.in_err-reply.ensures.obeys _ (search rules)

pub returns-in_err-push : goal.returns-in_err-push
returns-in_err-push g c =
    rw c.in_err-push.ensures.items (next-fails _ _ _ _ _ _ _ c.loop-command.invariant.going (here _ _ _ c.deref-command-items.ensures.value c.loop-command-test.true) _ (there _ _ _ _ c.deref-command-items.ensures.value c.loop-command-test.true) _ _ _ c.obey.ensures.goes_on.knows c.obey.ensures.goes_on.honest c.obey.ensures.client.client.own c.in_ok-reply.ensures.obeys.made _ (search rules))

pub returns-in_err-say : goal.returns-in_err-say
returns-in_err-say g c =
    going-ends _ _ _ _ _ _ _
    (next-going _ _ _ _ _ _ _ c.loop-command.invariant.going (here _ _ _ c.deref-command-items.ensures.value c.loop-command-test.true) _ (there _ _ _ _ c.deref-command-items.ensures.value c.loop-command-test.true) _ _ _ c.obey.ensures.goes_on.knows c.obey.ensures.goes_on.honest c.obey.ensures.client.client.own _ c.in_ok-reply.ensures.obeys _ c.in_ok-push.ensures.items)
    (omega (arith, here _ _ _ c.deref-command-items.ensures.value c.loop-command-test.true)) _ (search rules)

pub returns : goal.returns
returns g c =
    going-ends _ _ _ _ _ _ _ c.loop-command.invariant.going (omega (arith, c.loop-command.auto.command-index-end, c.deref-command-items.ensures.len)) _ (omega (arith, c.loop-command-test.false, c.loop-command.auto.command-index-end))
