use Rattle.std.proofs.Common.{◌≡◌, ⊎_elim, arith}
use Rattle.std.proofs.lemmas.Bool.{cases_eq}
use Rattle.example_accounts.proofs.AccountBalances.{put-same, says-other}
use Rattle.example_accounts.proofs.accounts.open_all.Goals as goal

pub loop-account-preserved : goal.loop-account-preserved
loop-account-preserved c = λ other lt. ⊎_elim
    (λ (same : other ≡ c.loop-account.account). put-same _ _ _ _ c.in_ok-put.ensures other same)
    (λ (differ : other ≡ c.loop-account.account → ⊥). says-other _ _ _ _ c.in_ok-put.ensures other 1000 differ (c.loop-account.invariant other (omega (arith, lt, differ))))
    (cases_eq other c.loop-account.account)
