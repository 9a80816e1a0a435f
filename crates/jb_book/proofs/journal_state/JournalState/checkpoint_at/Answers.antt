use Rattle.std.proofs.Common.{rules, ◌≡◌, ◌≤◌, false, subst, sym, ap, ◌∙◌, arith, Result}
use Rattle.jb_deck.specs.declared.checked.CheckpointFault.{CheckpointFault}
use Rattle.jb_book.specs.History.{IsStop}
use Rattle.jb_book.specs.Journal.{blocks_in_use, most_at_once, ChecksAt}
use Rattle.jb_book.specs.declared.checkpoint.CheckpointRound.{CheckpointRound}
use Rattle.jb_book.proofs.SinceNoHandles.{checkpoint-marked, plain-is, round-at, round_of}
use Rattle.jb_book.proofs.journal_state.JournalState.checkpoint_at.Goals as goal
use Rattle.jb_book.proofs.journal_state.JournalState.checkpoint_at.Goals.{else-not-aborted-via-then-not-aborted+else-in_use-level, else-not-aborted-via-else-not-aborted, in-Ok, in-Err}

pub returns-then-in_use-level-clause-round : goal.returns-then-in_use-level-clause-round
returns-then-in_use-level-clause-round g c = record {
  deck = c.self.inside.deck;
  since = plain-is g.D.Disk g.H.Origin.begun (IsStop g.H.Origin.begun c.self.inside.prefix) (λ h s. s.0) c.self.inside.deck c.self.invariant.since;
  up = search rules;
  in_use = c.in_use-in_use.ensures.blocks;
  low = c.if-in_use-level.true;
}

pub invariant_of-self : goal.invariant_of-self
invariant_of-self g c =
    checkpoint-marked g.D.Disk g.met.D.Disk.counts_now g.H.Origin.begun (IsStop g.H.Origin.begun c.self.inside.prefix)
    c.self.inside.deck c.checkpoint_up_to.new.self c.checkpoint_up_to.ensures.kept c.self.inside.appender
    most_at_once c.checkpoint_up_to.result c.checkpoint_up_to.ensures.answers c.checkpoint_up_to.ensures.checkpoints c.checkpoint_up_to.ensures.leaves c.self.invariant

pub returns-clause-round : goal.returns-clause-round
returns-clause-round g c =
    let deck = c.self.inside.deck in
    let In : Type 0 = deck.aborted ≡ false → c.args.level ≤ blocks_in_use deck in
    let high : In = elim c.else-not-aborted.branch [
      | else-not-aborted-via-then-not-aborted+else-in_use-level w ↦ λ up. (let low = w.if-in_use-level.false in let blocks = c.in_use-in_use.ensures.blocks in omega (arith, low, blocks))
      | else-not-aborted-via-else-not-aborted w ↦ λ up. absurd (let h : ⊥ = cc in h)
    ] in
    let is : round_of c.checkpoint_up_to.result ≡ c.match-checkpoint_up_to.result = elim c.match-checkpoint_up_to.branch [
      | in-Ok w ↦ ap round_of w.in-Ok.is ∙ sym w.result-is
      | in-Err w ↦ ap round_of w.in-Err.is ∙ sym w.result-is
    ] in
    subst (λ (r : Result CheckpointRound CheckpointFault). ChecksAt g.D.Disk g.H.Origin.begun c.args.level r) is
    (round-at g.D.Disk g.H.Origin.begun (IsStop g.H.Origin.begun c.self.inside.prefix) (λ h s. s.0) deck c.checkpoint_up_to.new.self c.checkpoint_up_to.ensures.kept c.self.invariant.since (invariant_of-self g c).since
    c.args.level high c.checkpoint_up_to.result c.checkpoint_up_to.ensures.answers c.checkpoint_up_to.ensures.checkpoints)
