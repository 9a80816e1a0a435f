use Rattle.std.proofs.Common.{ap, rules}
use Rattle.std.specs.List.{sum_by}
use Rattle.jb_book.specs.Account.{changed_by}
use Rattle.jb_desk.proofs.queue_state.QueueState.seat.Goals as goal

pub returns-clause-seat : goal.returns-clause-seat
returns-clause-seat g c = (search rules, search rules, ap (sum_by changed_by) c.requires, search rules)
