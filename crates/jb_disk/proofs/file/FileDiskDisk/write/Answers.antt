use Rattle.std.proofs.Common.{◌≡◌, ◌*◌, inl, length, refl, arith, subst, sym, is_ok}
use Rattle.jb_block.specs.Size.{bytes_of}
use Rattle.jb_disk.specs.Events.{Gave}
use Rattle.jb_disk.specs.File.{NotesCall, count_of, events_of, faults_of, size_of_blocks}
use Rattle.jb_disk.specs.Image.{Torn}
use Rattle.jb_disk.proofs.FileCalls.{tells, goes_event, kept_event, torn_block, torn_one, written_block}
use Rattle.jb_disk.specs.Faults.{CountsOne}
use Rattle.jb_disk.specs.OneCall.{Writes}
use Rattle.jb_disk.proofs.file.FileDiskDisk.write.Goals as goal

pub returns-clause-written : goal.returns-clause-written
returns-clause-written g c = λ honest.
    written_block _ _ _ _ _ c.args.place _ _ _ c.offset_of-at.ensures honest _ c.settle.ensures.variant c.requires.block c.requires.place c.write_at-answer.ensures

pub returns-clause-torn : goal.returns-clause-torn
returns-clause-torn g c = λ honest. torn_block _ _ _ _ _ c.args.place _ _ _ c.offset_of-at.ensures honest c.requires.block c.write_at-answer.ensures

pub returns-clause-goes : goal.returns-clause-goes
returns-clause-goes g c = λ honest.
    let f = c.args.self.now in
    let here = c.offset_of-at.ensures in
    let one : length c.args.bytes.now ≡ bytes_of f.size * 1 = omega (arith, c.requires.block) in
    goes_event (λ d. bytes_of (size_of_blocks d)) g.S.Start.content events_of (Torn c.args.place c.args.bytes.now) f _
    (Gave c.offset_of-at.result (is_ok c.write_at-answer.result) c.args.bytes.now) refl c.write_at-answer.ensures
    (λ d left. (left.0, left.1, torn_one (bytes_of f.size) c.args.place c.args.bytes.now left.0 d c.requires.block (left.3 c.args.place 1 here one)))

pub returns-clause-kept : goal.returns-clause-kept
returns-clause-kept g c =
    kept_event (λ d. bytes_of (size_of_blocks d)) count_of faults_of g.S.Start.content events_of c.args.self.now _ c.settle.result (Gave c.offset_of-at.result (is_ok c.write_at-answer.result) c.args.bytes.now) refl refl
    c.write_at-answer.ensures c.settle.ensures.faults c.settle.ensures.one

pub returns-clause-own : goal.returns-clause-own
returns-clause-own g c = record {
  counted = subst (λ ok. CountsOne ok c.args.self.now.faults c.settle.new.faults) (sym c.settle.ensures.variant) c.settle.ensures.one;
  noted = subst (λ ok. NotesCall (Writes c.args.place c.args.bytes.now) ok c.args.self.now.host.log.events c.write_at-answer.new.self.log.events) (sym c.settle.ensures.variant)
      (inl (c.offset_of-at.result, c.args.bytes.now, c.write_at-answer.ensures));
  told = tells c.write_at-answer.result _ _ _ c.settle.ensures.variant (Writes c.args.place c.args.bytes.now) c.settle.ensures.told;
}
