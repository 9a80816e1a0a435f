use Rattle.std.proofs.Common.{◌≡◌, take, sum}
use Rattle.example_accounts.proofs.accounts.total.Given as goal

-- the sum so far
abbrev pub invariant-loop-account : goal.invariant-loop-account
invariant-loop-account l = l.held ≡ sum (take l.account l.balances)
