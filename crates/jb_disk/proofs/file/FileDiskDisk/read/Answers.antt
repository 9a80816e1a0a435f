use Rattle.std.proofs.Common.{◌≡◌, inl, length, refl, rules, subst, sym, is_ok}
use Rattle.jb_block.specs.Size.{bytes_of}
use Rattle.jb_disk.proofs.FileCalls.{tells, found_block, kept_event, reads_event}
use Rattle.jb_disk.specs.Events.{Asked}
use Rattle.jb_disk.specs.Faults.{CountsOne}
use Rattle.jb_disk.specs.File.{NotesCall, count_of, events_of, faults_of, size_of_blocks}
use Rattle.jb_disk.specs.OneCall.{Reads}
use Rattle.jb_disk.proofs.file.FileDiskDisk.read.Goals as goal

pub returns-clause-found : goal.returns-clause-found
returns-clause-found g c = λ honest.
    let long : length c.read_at-answer.new.buf ≡ bytes_of c.args.self.now.size = search rules in
    found_block _ _ _ _ _ c.args.place _ _ _ c.offset_of-at.ensures honest _ c.settle.ensures.variant long c.read_at-answer.ensures

pub returns-clause-kept : goal.returns-clause-kept
returns-clause-kept g c =
    kept_event (λ d. bytes_of (size_of_blocks d)) count_of faults_of g.S.Start.content events_of c.args.self.now _ c.settle.result (Asked c.offset_of-at.result (is_ok c.read_at-answer.result) c.read_at-answer.new.buf) refl refl
    c.read_at-answer.ensures c.settle.ensures.faults c.settle.ensures.one

pub returns-clause-own : goal.returns-clause-own
returns-clause-own g c = record {
  own = record {
    counted = subst (λ ok. CountsOne ok c.args.self.now.faults c.settle.new.faults) (sym c.settle.ensures.variant) c.settle.ensures.one;
    noted = subst (λ ok. NotesCall (Reads c.args.place) ok c.args.self.now.host.log.events c.read_at-answer.new.self.log.events) (sym c.settle.ensures.variant)
        (inl (c.offset_of-at.result, c.read_at-answer.new.buf, c.read_at-answer.ensures));
    told = tells c.read_at-answer.result _ _ _ c.settle.ensures.variant (Reads c.args.place) c.settle.ensures.told;
  };
  unsynced = reads_event (λ d. bytes_of (size_of_blocks d)) g.S.Start.content events_of c.args.self.now _ c.offset_of-at.result (is_ok c.read_at-answer.result) c.read_at-answer.new.buf refl c.read_at-answer.ensures;
}
