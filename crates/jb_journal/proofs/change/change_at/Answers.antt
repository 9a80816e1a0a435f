use Rattle.std.proofs.Common.{ap, rules, subst, ◌∙◌}
use Rattle.std.specs.Fn.{FnOnceReturnsAtMut}
use Rattle.jb_desk.specs.Seats.{made_by}
use Rattle.jb_handle.specs.Handle.{changes_of}
use Rattle.jb_journal.specs.Change.{StopsWith}
use Rattle.jb_journal.proofs.ChangeAnswers.{stopped-as}
use Rattle.jb_journal.proofs.change.change_at.Goals as goal

pub returns-in-Ok-answer-clause-changed : goal.returns-in-Ok-answer-clause-changed
returns-in-Ok-answer-clause-changed g c =
    let old = made_by c.args.seat in
    let words = (changes_of c.with_seat-handle.result.1).words in
    let same = ap made_by (c.with_seat-handle.ensures.seat ∙ c.with_seat-seat.ensures.old ∙ c.in-Ok.ensures.ok.0) in
    stopped-as g.F.FnOnce c.args.change _ c.in-Ok-answer.answer (
    record {
      before = c.with_seat-seat.result.1;
      after = c.call-answer.new.handle;
      begun = c.with_seat-seat.ensures.changes ∙ c.in-Ok.ensures.ok.1;
      gave = subst (λ r. FnOnceReturnsAtMut g.F.FnOnce c.args.change c.with_seat-seat.result.1 r c.call-answer.new.handle) c.in-Ok-answer.is c.call-answer.ensures;
    }
    ) words old (made_by c.stop.result.0) (ap (λ h. h.words) c.with_seat-handle.ensures.changes) c.stop.result.1
    (subst (λ before. StopsWith c.in-Ok-answer.answer words before (made_by c.stop.result.0) c.stop.result.1) same c.stop.ensures.answer)

pub returns-in-Err-answer-clause-changed : goal.returns-in-Err-answer-clause-changed
returns-in-Err-answer-clause-changed g c = (
  record {
    before = c.with_seat-seat.result.1;
    after = c.call-answer.new.handle;
    begun = c.with_seat-seat.ensures.changes ∙ c.in-Ok.ensures.ok.1;
    gave = subst (λ r. FnOnceReturnsAtMut g.F.FnOnce c.args.change c.with_seat-seat.result.1 r c.call-answer.new.handle) c.in-Err-answer.is c.call-answer.ensures;
  },
  search rules,
)

pub returns-in-Err-clause-stopped : goal.returns-in-Err-clause-stopped
returns-in-Err-clause-stopped g c = tt

pub returns-in-Ok-answer-clause-desk : goal.returns-in-Ok-answer-clause-desk
returns-in-Ok-answer-clause-desk g c = c.stop.ensures.desk

pub returns-in-Ok-answer-clause-stopped : goal.returns-in-Ok-answer-clause-stopped
returns-in-Ok-answer-clause-stopped g c = c.stop.ensures.stopped

pub returns-in-Err-answer-clause-stopped : goal.returns-in-Err-answer-clause-stopped
returns-in-Err-answer-clause-stopped g c = tt
