use Rattle.std.proofs.Common.{ℕ, ◌<◌}
use Rattle.jb_handle.specs.Handle.{changes_of}
use Rattle.example_accounts.specs.Accounts.{SaysBalance}
use Rattle.example_accounts.proofs.accounts.open_all.Given as goal

-- the accounts so far are opened
abbrev pub invariant-loop-account : goal.invariant-loop-account
invariant-loop-account l = (other : ℕ) → other < l.account → SaysBalance (changes_of l.handle).words other 1000
