use Rattle.std.proofs.Common.{rules, ap, subst}
use Rattle.jb_handle.specs.Handle.{changes_of}
use Rattle.jb_handle.specs.HeldChanges.{Held}
use Rattle.jb_handle.specs.declared.handle.Handle.{Handle}
use Rattle.example_accounts.specs.Accounts.{PutsTwo}
use Rattle.example_accounts.proofs.AccountBalances.{move-leaves}
use Rattle.example_accounts.proofs.moving.stop_move.Goals as goal

pub returns-clause-stops : goal.returns-clause-stops
returns-clause-stops g c = λ before is long. (
    let changed = c.in_ok-ticket.ensures.changed in
    let called = changed.called in
    let gave = called.gave in
    let m = c.args.granted in
    let met : PutsTwo m.from m.less m.to m.more (changes_of gave.shown.now).words (changes_of gave.left.now).words = search (rules, gave.met) in
    let puts : PutsTwo m.from m.less m.to m.more (changes_of called.before).words (changes_of called.after).words =
    subst (λ (h : Handle (Unit {0})). PutsTwo m.from m.less m.to m.more (changes_of called.before).words (changes_of h).words) gave.leaves
    (subst (λ (h : Handle (Unit {0})). PutsTwo m.from m.less m.to m.more (changes_of h).words (changes_of gave.left.now).words) gave.shows met) in
    record {
      words = (changes_of called.after).words;
      stopped = changed.stopped;
      higher = c.in_ok-ticket.ensures.later;
      leaves = move-leaves before m (changes_of called.before).words (changes_of called.after).words long is (ap (λ (h : Held). h.words) called.begun) puts;
    })
