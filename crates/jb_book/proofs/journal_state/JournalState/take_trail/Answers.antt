use Rattle.jb_book.specs.History.{IsStop}
use Rattle.jb_book.proofs.SinceTakeTrail.{gives-trail, take-marked}
use Rattle.jb_book.proofs.journal_state.JournalState.take_trail.Goals as goal

pub invariant_of-self : goal.invariant_of-self
invariant_of-self g c =
    let tiles = rw c.trail-trail.ensures.value at c.trail-trail.ensures.tiles in
    take-marked g.D.Disk g.H.Origin.begun (IsStop g.H.Origin.begun c.self.inside.prefix) c.args.past c.self.inside.appender c.self.inside.deck c.take_trail.new.self tiles c.self.invariant
    c.take_trail.result c.take_trail.ensures.taken c.take_trail.ensures.refused

pub returns-clause-gives : goal.returns-clause-gives
returns-clause-gives g c =
    let tiles = rw c.trail-trail.ensures.value at c.trail-trail.ensures.tiles in
    gives-trail g.D.Disk g.H.Origin.begun (IsStop g.H.Origin.begun c.self.inside.prefix) c.args.past c.self.inside.appender c.self.inside.deck c.take_trail.new.self tiles c.self.invariant
    (λ h s. s.0) c.take_trail.result c.take_trail.ensures.taken c.take_trail.ensures.refused
