use Rattle.std.proofs.Common.{sym}
use Rattle.jb_desk.proofs.desk.Desk.end.Goals as goal

pub returns : goal.returns
returns g c =
    let ended = c.end_journal-deck.ensures in
    record {
      log = c.end-appender.result;
      knows = ended.knows;
      deck = c.end_journal-deck.result.0;
      same_disk = sym c.close.ensures.value;
      since = ended.since.since;
      last = ended.since.marks_last;
    }
