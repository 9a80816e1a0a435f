use Rattle.std.proofs.Common.{rules, ◌≡◌, get_or, set, ap, sym, ◌∙◌, ⊎_elim, arith, length-set}
use Rattle.std.proofs.lemmas.Bool.{cases_eq}
use Rattle.std.proofs.lemmas.List.{get_or-set_other, get_or-set_same}
use Rattle.jb_journal.specs.Client.{client_known}
use Rattle.example_accounts.specs.Accounts.{balance_in}
use Rattle.example_accounts.proofs.AccountBalances.{all-balances}
use Rattle.example_accounts.proofs.ClientSteps.{first-none, goes-trans, read-first}
use Rattle.example_accounts.proofs.finding.read_all.Goals as goal

pub loop-account-preserved : goal.loop-account-preserved
loop-account-preserved g c =
    let b = g.H.Origin.begun in
    let before = c.loop-account.invariant in
    let account = c.loop-account.account in
    record {
      client = search rules;
      goes_on = goes-trans c.args.client.now c.loop-account.client c.read.new.self before.goes_on c.read.ensures.goes_on;
      kept = c.read.ensures.kept ∙ before.kept;
      long = length-set c.loop-account.balances account c.balance.result ∙ before.long;
      read = λ none known held other lt. ⊎_elim
          (λ (same : other ≡ account). ap (λ k. get_or (set c.loop-account.balances account c.balance.result) k 0) same
          ∙ get_or-set_same c.loop-account.balances account c.balance.result 0 (omega (arith, c.loop-account-test.true, before.long))
          ∙ c.balance.ensures
          ∙ ap balance_in (read-first b _ _ _ account _ c.in_ok-read.ensures.reads none known held)
          ∙ ap (λ k. balance_in (b.homes k)) (sym same))
          (λ (differ : other ≡ account → ⊥). get_or-set_other c.loop-account.balances account other c.balance.result 0 differ
          ∙ before.read (first-none (client_known c.loop-account.client).log (client_known c.read.new.self).log c.read.ensures.goes_on.knows.0 none) known (c.read.ensures.goes_on.honest held) other (omega (arith, lt, differ)))
          (cases_eq other account);
    }

pub returns-in_err-read-clause-goes_on : goal.returns-in_err-read-clause-goes_on
returns-in_err-read-clause-goes_on g c = goes-trans c.args.client.now c.loop-account.client c.read.new.self c.loop-account.invariant.goes_on c.read.ensures.goes_on

pub returns-clause-found : goal.returns-clause-found
returns-clause-found g c = λ none known held.
    all-balances g.H.Origin.begun.homes c.loop-account.balances c.loop-account.invariant.long
    (λ account lt. c.loop-account.invariant.read none known held account (omega (arith, lt, c.loop-account-test.false)))
