use Rattle.jb_deck.proofs.CheckpointOne.{checks-run}
use Rattle.jb_deck.specs.Checkpoints.{as_run}
use Rattle.jb_book.specs.History.{IsStop}
use Rattle.jb_book.proofs.SinceNoHandles.{checkpoint-marked, checkpoint-round}
use Rattle.jb_book.proofs.journal_state.JournalState.checkpoint.Goals as goal

pub invariant_of-self : goal.invariant_of-self
invariant_of-self g c =
    checkpoint-marked g.D.Disk g.met.D.Disk.counts_now g.H.Origin.begun (IsStop g.H.Origin.begun c.self.inside.prefix)
    c.self.inside.deck c.checkpoint_one.new.self c.checkpoint_one.ensures.kept c.self.inside.appender
    1 (as_run c.checkpoint_one.result) c.checkpoint_one.ensures.answers (λ honest. checks-run _ c.checkpoint_one.result (c.checkpoint_one.ensures.checkpoints honest)) c.checkpoint_one.ensures.leaves c.self.invariant

pub returns-clause-round : goal.returns-clause-round
returns-clause-round g c =
    checkpoint-round g.D.Disk g.H.Origin.begun (IsStop g.H.Origin.begun c.self.inside.prefix) (λ h s. s.0)
    c.self.inside.deck c.checkpoint_one.new.self c.checkpoint_one.ensures.kept c.self.invariant.since (invariant_of-self g c).since
    c.checkpoint_one.result c.checkpoint_one.ensures.answers c.checkpoint_one.ensures.checkpoints
