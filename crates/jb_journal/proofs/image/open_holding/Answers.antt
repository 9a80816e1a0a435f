use Rattle.std.proofs.Common.{ap, subst, sym}
use Rattle.jb_block.specs.Size.{bytes_of}
use Rattle.jb_disk.specs.File.{faults_of}
use Rattle.jb_image.proofs.OpenedFile.{opened-holds}
use Rattle.jb_recover.specs.Passes.{PassFaults}
use Rattle.jb_recover.specs.declared.recovered.Recovered.{Recovered}
use Rattle.std.specs.Prelude.{Err}
use Rattle.jb_journal.specs.OpenFile.{RefusesImage, WasRefused}
use Rattle.jb_journal.proofs.RecoveredFile.{recovers-held, unrecovered, was-recovered}
use Rattle.jb_journal.proofs.image.open_holding.Goals as goal

pub returns-in-Ok-recover-clause-opened : goal.returns-in-Ok-recover-clause-opened
returns-in-Ok-recover-clause-opened g c =
    let old = c.in-Ok.disk in
    let was = c.in-Ok.ensures in
    let done = c.in-Ok-recover.ensures in
    was-recovered c.args.size old c.recover.new.disk c.in-Ok-recover.field-0 was.size was.fresh was.opened done.kept done.recovers done.settled done.durable

pub returns-in-Err-recover-clause-refused : goal.returns-in-Err-recover-clause-refused
returns-in-Err-recover-clause-refused g c =
    let old = c.in-Ok.disk in
    let new = c.recover.new.disk in
    let was = c.in-Ok.ensures in
    let done = c.in-Err-recover.ensures in
    let fault = c.in-Err-recover.fault in
    let refused : WasRefused g.S.Start c.args.size fault = record {
      file = new;
      counted = subst (λ n. PassFaults {T = Recovered} (Err fault) n (faults_of new)) was.fresh done.kept.counted;
      refuses = λ honest. recovers-held c.args.size old new (Err fault) (ap bytes_of was.size) done.kept.same_count
          (opened-holds old was.opened.0 was.opened.1 (done.kept.was_honest honest)) (done.recovers honest);
    } in
    subst (RefusesImage g.S.Start c.args.size) (sym c.unrecovered.ensures) (unrecovered c.args.size fault refused c.failure.result c.failure.ensures)
