use Rattle.std.proofs.Common.{rules, refl, sym, subst, ◌∙◌}
use Rattle.jb_board.proofs.EntryPlaces.{all-first, at-place, placed_on}
use Rattle.jb_book.specs.History.{IsStop}
use Rattle.jb_book.specs.SinceMark.{Lasts}
use Rattle.jb_book.proofs.StopHistories.{of-begun}
use Rattle.jb_book.proofs.HomesAtEnd.{are-home}
use Rattle.jb_book.specs.AtHome.{AreHome}
use Rattle.jb_desk.proofs.desk.closing.close_parts.Goals as goal

pub returns-clause-sums : goal.returns-clause-sums
returns-clause-sums g c = c.totals-trail.ensures.sums

pub returns-clause-stops : goal.returns-clause-stops
returns-clause-stops g c =
    let b = g.H.Origin.begun in
    let deck = c.end_journal-deck.result.0 in
    let log = c.totals-trail.result.3 in
    let shape = c.shape-shape.result in
    let marks = c.learn.new.prefix in
    let is = c.end_journal-deck.ensures.since in
    record {
      marked = record {
        ends = record {
          log = log;
          number = search rules;
          stopped = search rules;
          deck = deck;
          same_disk = sym c.close.ensures.value;
          same_shape = sym c.shape-shape.ensures.value;
          same_trail = search rules;
          since = is.since;
          journal = λ known_start held. of-begun g.D.Disk b (IsStop b log) deck shape c.shape-shape.ensures.journal is.since known_start (subst g.D.Disk.honest c.close.ensures.value held);
        };
        knows = c.end_journal-deck.ensures.knows;
        last = all-first (Lasts g.D.Disk b is.since.given is.since.bounds deck) c.args.seen.marks marks c.learn.ensures.own is.marks_last;
      };
      used = c.used_of-in_log.ensures.used;
      home = λ zero known_start held.
          let none = c.used_of-in_log.ensures.none zero in
          let there = is.since.since known_start (subst g.D.Disk.honest c.close.ensures.value held) in
          subst (AreHome g.D.Disk b is.since.given) (sym c.close.ensures.value) (are-home g.D.Disk b is.since.given is.since.bounds deck there none.0 none.1);
    }

-- the book's shape is that of the journal at a mark, and so its shape now
pub returns-clause-came : goal.returns-clause-came
returns-clause-came g c =
    let deck = c.end_journal-deck.result.0 in
    let marks = c.learn.new.prefix in
    let since = c.end_journal-deck.ensures.since in
    let book = c.totals-trail.ensures.journal in
    let stands = placed_on c.totals-trail.result.4 marks c.learn.ensures.other (book.at, book.mark) book.stands in
    let last = at-place (Lasts g.D.Disk g.H.Origin.begun since.since.given since.since.bounds deck) marks book.at book.mark stands since.marks_last in
    record {
      log = c.totals-trail.result.3;
      stopped = search rules;
      run_shape = c.args.queue.register.book.shape;
      run = search rules;
      runs_as = λ known_start held. sym book.same ∙ sym last.same_shape ∙ sym c.shape-shape.ensures.value;
    }

pub returns-clause-tiles : goal.returns-clause-tiles
returns-clause-tiles g c = c.totals-trail.ensures.tiles

pub returns-clause-refused : goal.returns-clause-refused
returns-clause-refused g c = tt

-- the journal and the book differ
pub returns-then-not-are_same-clause-refused : goal.returns-then-not-are_same-clause-refused
returns-then-not-are_same-clause-refused g c =
    let deck = c.end_journal-deck.result.0 in
    let ended = c.end_journal-deck.ensures in (
      ended.parts.0,
      ended.parts.1,
      c.totals-trail.ensures.book.0,
      search rules,
      record {
        log = c.totals-trail.result.3;
        knows = ended.knows;
        deck = deck;
        same_disk = refl;
        since = ended.since.since;
        last = all-first (Lasts g.D.Disk g.H.Origin.begun ended.since.since.given ended.since.since.bounds deck) c.args.seen.marks c.learn.new.prefix c.learn.ensures.own ended.since.marks_last;
      },
    )
