use Rattle.std.proofs.Common.{◌+◌, inl, inr, length, refl, sym, subst, is_ok, add-zero, ◌≡◌}
use Rattle.jb_block.specs.Size.{bytes_of}
use Rattle.jb_disk.specs.RecordLaws.{left_from_only}
use Rattle.jb_disk.specs.OneCall.{Writes}
use Rattle.jb_disk.specs.Events.{NotesAtMost, Leaves, LeftFrom, Gave}
use Rattle.jb_disk.specs.Failures.{told_after}
use Rattle.jb_disk.specs.declared.failure.FailedCall.TheVariants.{Write}
use Rattle.jb_disk.specs.Faults.{CountsOne}
use Rattle.jb_disk.specs.File.{IsOneCall, count_of, events_of, faults_of, size_of_blocks}
use Rattle.jb_disk.specs.Runs.{part, TornRun}
use Rattle.jb_disk.proofs.FileCalls.{tells_run, goes_event, kept_event, torn_file}
use Rattle.jb_disk.proofs.RunWrites.{torn_run-same}
use Rattle.jb_disk.proofs.RunReads.{made-once}
use Rattle.jb_disk.proofs.CallSteps.{steps-goes}
use Rattle.jb_disk.proofs.file.FileDiskDisk.write_run.Goals as goal

pub returns-clause-steps : goal.returns-clause-steps
returns-clause-steps g c = λ honest.
    let f = c.args.self.now in
    let content = g.S.Start.content in
    let size = bytes_of f.size in
    let n = c.args._blocks in
    let bytes = c.args.bytes.now in
    let place = c.args.place in
    let here = c.offset_of-at.ensures in
    steps-goes (λ d. Leaves (bytes_of (size_of_blocks d)) content (events_of d)) (λ d. length (events_of d)) (λ d. LeftFrom (bytes_of (size_of_blocks d)) content (events_of d))
    (TornRun size n place bytes) f _
    (λ d. torn_run-same size n place bytes d)
    (λ d left. left_from_only size content f.host.log.events d left)
    (goes_event (λ d. bytes_of (size_of_blocks d)) content events_of (TornRun size n place bytes) f _
    (Gave c.offset_of-at.result (is_ok c.write_at-answer.result) bytes) refl c.write_at-answer.ensures
    (λ d left. (left.0, left.1, left.3 place n here c.requires.run.long)))

pub returns-clause-torn : goal.returns-clause-torn
returns-clause-torn g c = λ honest. torn_file _ _ _ _ _ c.args.place _ _ _ c.offset_of-at.ensures honest c.args._blocks c.requires.run.long c.write_at-answer.ensures

pub returns-clause-own : goal.returns-clause-own
returns-clause-own g c = λ _.
    let old = c.args.self.now in
    let counted : CountsOne (is_ok c.settle.result) old.faults c.settle.new.faults
    = subst (λ ok. CountsOne ok old.faults c.settle.new.faults) (sym c.settle.ensures.variant) c.settle.ensures.one in
    let noted : NotesAtMost Gave (is_ok c.settle.result) old.host.log.events c.write_at-answer.new.self.log.events
    = subst (λ ok. NotesAtMost Gave ok old.host.log.events c.write_at-answer.new.self.log.events) (sym c.settle.ensures.variant)
    (inl (c.offset_of-at.result, c.args.bytes.now, c.write_at-answer.ensures)) in
    let told = subst (λ p. c.settle.new.failed ≡ told_after (Write p) c.write_at-answer.result old.failed) (sym (add-zero c.args.place)) c.settle.ensures.told in
    made-once IsOneCall (λ k. Writes (c.args.place + k) (part (bytes_of old.size) k c.args.bytes.now)) c.args._blocks old _ (is_ok c.settle.result) c.requires.run.some
    (λ k. record { counted = refl; noted = inr (refl, refl); told = refl }) (λ k first. record { counted = counted; noted = noted; told = tells_run c.write_at-answer.result _ _ _ c.settle.ensures.variant (λ k. Writes (c.args.place + k) (part (bytes_of old.size) k c.args.bytes.now)) k told first })

pub returns-clause-kept : goal.returns-clause-kept
returns-clause-kept g c =
    kept_event (λ d. bytes_of (size_of_blocks d)) count_of faults_of g.S.Start.content events_of c.args.self.now _ c.settle.result (Gave c.offset_of-at.result (is_ok c.write_at-answer.result) c.args.bytes.now) refl refl
    c.write_at-answer.ensures c.settle.ensures.faults c.settle.ensures.one
