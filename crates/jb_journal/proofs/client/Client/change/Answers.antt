use Rattle.std.proofs.Common.{◌≡◌, Some, rules}
use Rattle.jb_journal.proofs.ChangeAnswers.{own-again}
use Rattle.jb_journal.proofs.client.Client.change.Goals as goal

pub returns-clause-client : goal.returns-clause-client
returns-clause-client g c =
    let taken : c.args.self.now.seat ≡ Some c.in-Some.seat = search rules in
    record {
      seated = search rules;
      shaped = search rules;
      any = c.requires.client.any;
      own = own-again c.args.self.now.seen c.change_at-seat.new.seen c.sit.new.self.seen c.args.self.now.seat c.sit.new.self.seat c.in-Some.seat c.change_at-seat.result.0 taken c.sit.ensures.seat c.sit.ensures.seen c.change_at-seat.ensures.sees.own c.requires.client.own;
    }
