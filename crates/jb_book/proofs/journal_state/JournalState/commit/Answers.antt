use Rattle.std.proofs.Common.{List, subst, sym, ◌∙◌}
use Rattle.jb_deck.specs.Deck.{OpenDeck}
use Rattle.jb_book.proofs.CommitEntries.{commit_tells, commits-as}
use Rattle.jb_book.specs.History.{IsStop}
use Rattle.jb_book.specs.SinceMark.{IsMarkedOf, MarksSettled}
use Rattle.jb_book.proofs.StopHistories.{all-stops, marked-weaker, stop-on}
use Rattle.jb_book.proofs.MarksLast.{marked-now, marks-settled}
use Rattle.jb_book.proofs.SinceCommit.{commit-ends, commit-marked}
use Rattle.jb_book.proofs.journal_state.JournalState.commit.Goals as goal

pub invariant_of-self : goal.invariant_of-self
invariant_of-self g c =
    let b = g.H.Origin.begun in
    let stops = all-stops b c.args.prefix c.learn.new.prefix c.learn.ensures.other c.args.prepared.batch.handles c.requires.stops c.requires.history in
    let tickets = rw c.batch.ensures at c.handles-handles.ensures.kept.tickets in
    let is = marked-weaker g.D.Disk b (IsStop b c.self.inside.prefix) (IsStop b c.learn.new.prefix) (stop-on b c.self.inside.prefix c.learn.new.prefix c.learn.ensures.own) c.self.inside.appender c.self.inside.deck c.self.invariant in
    let after = commit-marked g.D.Disk b (IsStop b c.learn.new.prefix)
    c.args.prepared c.now-stamp.result c.self.inside.deck c.commit_batch-result.new.self c.groups-groups.ensures.least tickets stops c.commit_batch-result.ensures.kept c.self.inside.appender
    c.commit_batch-result.result c.commit_batch-result.ensures.answers c.commit_batch-result.ensures.commits c.commit_batch-result.ensures.leaves (λ up held. (c.commit_batch-result.ensures.now up held).each) is in
    let tiles = rw c.trail-trail.ensures.value at c.trail-trail.ensures.tiles in
    subst (λ (ms : List (OpenDeck g.row.D.Denot)). IsMarkedOf g.D.Disk b (IsStop b c.learn.new.prefix) ms c.commit_batch-result.new.self) (sym c.mark-marks.ensures.whole)
    (marked-now g.D.Disk g.met.D.Disk.only_now b (IsStop b c.learn.new.prefix) c.self.inside.appender c.commit_batch-result.new.self tiles after)

pub returns-clause-tells : goal.returns-clause-tells
returns-clause-tells g c =
    let r = c.commit_batch-result in (
      commits-as (g.D.Disk.faults c.self.inside.deck.disk) (g.D.Disk.faults r.new.self.disk) c.args.prepared c.now-stamp.result c.self.inside.deck r.new.self r.result c.groups-groups.ensures.least r.ensures.answers,
      commit_tells (g.D.Disk.faults c.self.inside.deck.disk) (g.D.Disk.faults r.new.self.disk) c.args.prepared c.now-stamp.result c.self.inside.deck r.new.self r.result c.groups-groups.ensures.least r.ensures.answers,
      rw c.batch.ensures at c.handles-handles.ensures.kept.tickets,
    )

pub returns-clause-round : goal.returns-clause-round
returns-clause-round g c =
    let b = g.H.Origin.begun in
    let stops = all-stops b c.args.prefix c.learn.new.prefix c.learn.ensures.other c.args.prepared.batch.handles c.requires.stops c.requires.history in
    let tickets = rw c.batch.ensures at c.handles-handles.ensures.kept.tickets in
    let is = marked-weaker g.D.Disk b (IsStop b c.self.inside.prefix) (IsStop b c.learn.new.prefix) (stop-on b c.self.inside.prefix c.learn.new.prefix c.learn.ensures.own) c.self.inside.appender c.self.inside.deck c.self.invariant in
    commit-ends g.D.Disk b (IsStop b c.learn.new.prefix)
    c.args.prepared c.now-stamp.result c.self.inside.deck c.commit_batch-result.new.self c.groups-groups.ensures.least tickets stops c.commit_batch-result.ensures.kept (λ h s. s.0) c.self.inside.appender
    c.commit_batch-result.result c.commit_batch-result.ensures.answers c.commit_batch-result.ensures.commits c.commit_batch-result.ensures.finds c.commit_batch-result.ensures.leaves (λ up held. (c.commit_batch-result.ensures.now up held).each) is

pub returns-clause-marked : goal.returns-clause-marked
returns-clause-marked g c =
    let r = c.commit_batch-result in
    subst (λ (ms : List (OpenDeck g.row.D.Denot)). MarksSettled ms r.result) (sym c.mark-marks.ensures.whole ∙ sym c.mark-marks.ensures.prefix)
    (marks-settled (g.D.Disk.faults c.self.inside.deck.disk) (g.D.Disk.faults r.new.self.disk) c.args.prepared c.now-stamp.result c.self.inside.appender c.self.inside.deck r.new.self r.result r.ensures.answers)
