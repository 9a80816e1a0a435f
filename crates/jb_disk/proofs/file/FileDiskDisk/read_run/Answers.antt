use Rattle.std.proofs.Common.{◌≡◌, ◌+◌, ◌*◌, inl, inr, length, refl, sym, subst, rules, is_ok, add-zero}
use Rattle.jb_block.specs.Size.{bytes_of}
use Rattle.jb_disk.specs.OneCall.{Reads}
use Rattle.jb_disk.specs.Failures.{told_after}
use Rattle.jb_disk.specs.declared.failure.FailedCall.TheVariants.{Read}
use Rattle.jb_disk.specs.Faults.{CountsOne}
use Rattle.jb_disk.specs.Events.{Asked, NotesAtMost}
use Rattle.jb_disk.specs.File.{IsOneCall, count_of, events_of, faults_of, size_of_blocks}
use Rattle.jb_disk.proofs.FileCalls.{tells_run, found_run, kept_event, reads_event}
use Rattle.jb_disk.proofs.RunReads.{made-once}
use Rattle.jb_disk.proofs.file.FileDiskDisk.read_run.Goals as goal

pub returns-clause-found : goal.returns-clause-found
returns-clause-found g c = λ honest.
    let long : length c.read_at-answer.new.buf ≡ bytes_of c.args.self.now.size * c.args._blocks = search rules in
    found_run _ _ _ _ _ c.args.place _ _ _ c.offset_of-at.ensures honest c.args._blocks _ c.settle.ensures.variant long c.read_at-answer.ensures

pub returns-clause-own : goal.returns-clause-own
returns-clause-own g c = record {
  own = λ _.
      let old = c.args.self.now in
      let counted : CountsOne (is_ok c.settle.result) old.faults c.settle.new.faults
      = subst (λ ok. CountsOne ok old.faults c.settle.new.faults) (sym c.settle.ensures.variant) c.settle.ensures.one in
      let noted : NotesAtMost Asked (is_ok c.settle.result) old.host.log.events c.read_at-answer.new.self.log.events
      = subst (λ ok. NotesAtMost Asked ok old.host.log.events c.read_at-answer.new.self.log.events) (sym c.settle.ensures.variant)
      (inl (c.offset_of-at.result, c.read_at-answer.new.buf, c.read_at-answer.ensures)) in
      let told = subst (λ p. c.settle.new.failed ≡ told_after (Read p) c.read_at-answer.result old.failed) (sym (add-zero c.args.place)) c.settle.ensures.told in
      made-once IsOneCall (λ k. Reads (c.args.place + k)) c.args._blocks old _ (is_ok c.settle.result) c.requires.run.some
      (λ k. record { counted = refl; noted = inr (refl, refl); told = refl }) (λ k first. record { counted = counted; noted = noted; told = tells_run c.read_at-answer.result _ _ _ c.settle.ensures.variant (λ k. Reads (c.args.place + k)) k told first });
  unsynced = reads_event (λ d. bytes_of (size_of_blocks d)) g.S.Start.content events_of c.args.self.now _ c.offset_of-at.result (is_ok c.read_at-answer.result) c.read_at-answer.new.buf refl c.read_at-answer.ensures;
}

pub returns-clause-kept : goal.returns-clause-kept
returns-clause-kept g c =
    kept_event (λ d. bytes_of (size_of_blocks d)) count_of faults_of g.S.Start.content events_of c.args.self.now _ c.settle.result (Asked c.offset_of-at.result (is_ok c.read_at-answer.result) c.read_at-answer.new.buf) refl refl
    c.read_at-answer.ensures c.settle.ensures.faults c.settle.ensures.one
