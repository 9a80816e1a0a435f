use Rattle.std.proofs.Common.{rules, subst}
use mathlib.Core.List.{IsPrefix}
use Rattle.jb_book.specs.History.{IsStop}
use Rattle.jb_book.proofs.StopHistories.{marked-weaker, stop-on}
use Rattle.jb_desk.proofs.desk.closing.end_journal.Goals as goal

pub returns : goal.returns
returns g c =
    let b = g.H.Origin.begun in
    let log = c.args.appender.now in
    let prefix = c.end-deck.result.2 in
    record {
      kept = search rules;
      parts = c.end-deck.ensures.parts;
      knows = subst (IsPrefix c.args.seen.stops) c.check.ensures.kept c.check-2.ensures.prefix;
      since = marked-weaker g.D.Disk b (IsStop b prefix) (IsStop b log) (stop-on b prefix log c.check.ensures.prefix) c.args.seen.marks c.end-deck.result.0 c.end-deck.ensures.since;
    }
