use Rattle.std.proofs.Common.{List, length, ap, subst, sym, ◌∙◌}
use mathlib.Core.List.{IsPrefix}
use Rattle.jb_deck.specs.Deck.{OpenDeck}
use Rattle.jb_handle.specs.Word.{WordMap}
use Rattle.jb_board.proofs.EntryPlaces.{get_last, placed_on}
use Rattle.jb_board.specs.HistoryRule.{StandsIn, with_last}
use Rattle.jb_book.specs.History.{IsStop}
use Rattle.jb_book.specs.SinceMark.{IsMarkedOf}
use Rattle.jb_book.proofs.StopHistories.{stop-on}
use Rattle.jb_book.proofs.MarksLast.{marked-now, settled-of}
use Rattle.jb_book.proofs.SinceNoHandles.{read-home, read-marked}
use Rattle.jb_book.proofs.journal_state.JournalState.read.Goals as goal

pub invariant_of-self : goal.invariant_of-self
invariant_of-self g c =
    let b = g.H.Origin.begun in
    let known = IsStop b c.self.inside.prefix in
    let after = read-marked g.D.Disk g.met.D.Disk.counts_now b known
    c.self.inside.deck c.read_home-result.new.self c.read_home-result.ensures.kept.kept c.self.inside.appender c.read_home-result.ensures.kept.unsynced _ _
    c.read_home-result.result c.read_home-result.ensures.answers c.read_home-result.ensures.newest c.read_home-result.ensures.leaves c.self.invariant in
    let tiles = rw c.trail-trail.ensures.value at c.trail-trail.ensures.tiles in
    let now = marked-now g.D.Disk g.met.D.Disk.only_now b known c.self.inside.appender c.read_home-result.new.self tiles after in
    subst (λ (x : List WordMap × List (OpenDeck g.row.D.Denot)). IsMarkedOf g.D.Disk b (IsStop b x.0) x.1 c.read_home-result.new.self)
    (λ i. (sym c.learn.ensures.kept i, (ap (λ (ms : List (OpenDeck g.row.D.Denot)). with_last ms c.read_home-result.new.self) (sym c.check.ensures.kept) ∙ sym c.mark-shown.ensures.whole) i))
    now

pub returns-clause-home : goal.returns-clause-home
returns-clause-home g c =
    let b = g.H.Origin.begun in
    let known = IsStop b c.self.inside.prefix in
    let deck = c.self.inside.deck in
    let new = c.read_home-result.new.self in
    let seen = subst (λ (ms : List (OpenDeck g.row.D.Denot)). IsPrefix ms c.self.inside.appender) c.again-marks.ensures.prefix c.check.ensures.prefix in
    let after = read-marked g.D.Disk g.met.D.Disk.counts_now b known
    deck new c.read_home-result.ensures.kept.kept c.self.inside.appender c.read_home-result.ensures.kept.unsynced _ _
    c.read_home-result.result c.read_home-result.ensures.answers c.read_home-result.ensures.newest c.read_home-result.ensures.leaves c.self.invariant in
    let at = length c.check.new.appender in
    let last : StandsIn c.mark-shown.result (at, new) = subst (λ (ms : List (OpenDeck g.row.D.Denot)). StandsIn ms (at, new)) (sym c.mark-shown.ensures.whole ∙ sym c.mark-shown.ensures.prefix) (get_last c.check.new.appender new) in
    let marked = placed_on c.mark-shown.result c.learn-2.new.prefix c.learn-2.ensures.other (at, new) last in
    read-home g.D.Disk b known
    deck new c.read_home-result.ensures.kept.kept c.learn.new.prefix c.args.seen.now.marks c.learn-2.new.prefix at _ _ _
    c.read_home-result.result (stop-on b c.self.inside.prefix c.learn.new.prefix c.learn.ensures.other)
    (settled-of g.D.Disk b c.self.invariant.since.given c.self.invariant.since.bounds deck c.args.seen.now.marks c.self.inside.appender seen c.self.invariant.marks_last) marked
    c.read_home-result.ensures.answers c.read_home-result.ensures.found c.read_home-result.ensures.newest c.self.invariant.since after.since
