use Rattle.std.proofs.Common.{ℕ, ◌<◌, subst}
use Rattle.jb_handle.specs.Handle.{changes_of}
use Rattle.jb_handle.specs.declared.handle.Handle.{Handle}
use Rattle.example_accounts.specs.Accounts.{SaysBalance}
use Rattle.example_accounts.proofs.AccountBalances.{opening-leaves}
use Rattle.example_accounts.proofs.moving.stop_opening.Goals as goal

-- a handle that has opened all accounts
abbrev Opened : Handle (Unit {0}) → Type 0
Opened handle = (account : ℕ) → account < 100 → SaysBalance (changes_of handle).words account 1000

pub returns-clause-stops : goal.returns-clause-stops
returns-clause-stops g c = λ before. (
    let changed = c.in_ok-ticket.ensures.changed in
    let called = changed.called in
    record {
      words = (changes_of called.after).words;
      stopped = changed.stopped;
      higher = c.in_ok-ticket.ensures.later;
      leaves = opening-leaves before (changes_of called.after).words (subst Opened called.gave.leaves called.gave.met);
    })
