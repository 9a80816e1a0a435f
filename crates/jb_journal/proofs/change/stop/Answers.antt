use Rattle.std.proofs.Common.{refl, ◌∙◌}
use Rattle.jb_journal.proofs.ChangeAnswers.{sees-stop}
use Rattle.jb_journal.proofs.change.stop.Goals as goal

pub stop-requires-clause-seat : goal.stop-requires-clause-seat
stop-requires-clause-seat g c = c.requires.desk

pub returns-in-Ok : goal.returns-in-Ok
returns-in-Ok g c =
    let is = c.in-Ok.ensures in
    record {
      desk = is.seat.desk ∙ c.requires.desk;
      answer = (refl, is.seat.counted.made);
      stopped = is.stopped;
      sees = sees-stop _ _ c.args.seen.now c.stop.new.seen c.args.answer c.in-Ok.ticket _ is.seat.counted.made is.sees is.marks;
    }

pub returns-in-Err-Aborted-clause-stopped : goal.returns-in-Err-Aborted-clause-stopped
returns-in-Err-Aborted-clause-stopped g c = tt

pub returns-in-Err-NotOpen-clause-stopped : goal.returns-in-Err-NotOpen-clause-stopped
returns-in-Err-NotOpen-clause-stopped g c = tt

pub returns-clause-stopped : goal.returns-clause-stopped
returns-clause-stopped g c = tt
